use Rattle.std.proofs.Common.{◌≡◌, ◌∙◌, suc, ◌≤◌, refl, ap, length, arith}
use Rattle.device_steps.specs.Apart.{PlainDevice, standing, Stored}
use Rattle.device_steps.specs.Settling.{asks}
use Rattle.device_steps.proofs.InMemory.{none_known}
use Rattle.device_steps.proofs.OneQueue.{none_below, none_there, turn_of_one}
use Rattle.device_steps.proofs.device.Device.turn_on.Goals as goal

pub serve_next-requires : goal.serve_next-requires
serve_next-requires g c =
    let d = c.self.inside in
    let end : c.len.result ≡ length c.args.self.now.queues =
    omega (arith, d.bays.ok.0, c.len.ensures) ∙ ap (λ (z : PlainDevice). length z.queues) c.self.view_is in
    record {
      most = c.requires.most;
      room = g.met.M.Memory.fewer c.args.memory.now 60 5 (omega arith) c.requires.room;
      ready = c.requires.ready;
      before = c.requires.before;
      below = λ m may.
          none_below (asks c.args.queues) c.args.number (standing g.M.Memory.shared m c.args.self.now) c.requires.alone;
      there = omega (arith, c.if-number-len.false, end);
      asked = c.requires.alone.on;
    }

pub returns-then-number-len-clause-turns : goal.returns-then-number-len-clause-turns
returns-then-number-len-clause-turns g c =
    let d = c.self.inside in
    let end : c.len.result ≡ length c.args.self.now.queues =
    omega (arith, d.bays.ok.0, c.len.ensures) ∙ ap (λ (z : PlainDevice). length z.queues) c.self.view_is in
    let past : length c.args.self.now.queues ≤ c.args.number = omega (arith, c.if-number-len.true, end) in (
      refl,
      (λ m may. (
        may,
        none_there (asks c.args.queues) c.args.number (standing g.M.Memory.shared m c.args.self.now) c.requires.alone
            (c.requires.before m may) past,
      )),
      none_known g.M.Memory.stored g.M.Memory.storing g.met.M.Memory.none c.args.memory.now c.args.memory.now refl,
    )

pub returns-clause-turns : goal.returns-clause-turns
returns-clause-turns g c =
    let d = c.self.inside in
    let end : c.len.result ≡ length c.args.self.now.queues =
    omega (arith, d.bays.ok.0, c.len.ensures) ∙ ap (λ (z : PlainDevice). length z.queues) c.self.view_is in
    let there : suc c.args.number ≤ length c.args.self.now.queues = omega (arith, c.if-number-len.false, end) in
    turn_of_one g.M.Memory.shared g.M.Memory.may_be (Stored g.M.Memory.stored g.M.Memory.storing) (asks c.args.queues)
    c.args.most c.args.number c.args.memory.now c.args.self.now c.serve_next.result c.serve_next.new.memory c.serve_next.new.self
    c.requires.alone c.requires.before there c.serve_next.ensures.turns
