use Rattle.std.proofs.Common.{◌+◌, ◌∙◌, refl, sym, arith}
use Rattle.device_steps.specs.Apart.{Stored}
use Rattle.device_steps.specs.Settling.{asks}
use Rattle.device_steps.proofs.InMemory.{none_known, on_known}
use Rattle.device_steps.proofs.EachTurn.{fetches_before, still_ready}
use Rattle.device_steps.proofs.Looks.{false_true}
use Rattle.device_steps.proofs.device.Device.serve_queue.Goals as goal

pub returns-then-not-is_asked-clause-turns : goal.returns-then-not-is_asked-clause-turns
returns-then-not-is_asked-clause-turns g c = (
  refl,
  (λ m may. (may, λ on applies. false_true (c.if-not-is_asked.ensures ∙ on))),
  none_known g.M.Memory.stored g.M.Memory.storing g.met.M.Memory.none c.args.memory.now c.args.memory.now refl,
)

pub returns-then-idle-clause-turns : goal.returns-then-idle-clause-turns
returns-then-idle-clause-turns g c =
    let look = c.is_passed_by-idle.ensures in (
      refl,
      (λ m may. (look.stays m may, λ on. look.idle m may c.if-idle.true)),
      none_known g.M.Memory.stored g.M.Memory.storing g.met.M.Memory.none c.args.memory.now c.is_passed_by-idle.new.memory
          look.stores,
    )

pub serve_next-requires : goal.serve_next-requires
serve_next-requires g c =
    let look = c.is_passed_by-idle in
    record {
      most = c.requires.most;
      room = look.ensures.room 5 (g.met.M.Memory.fewer c.args.memory.now 6 (5 + 1) (omega arith) c.requires.room);
      ready = still_ready (g.M.Memory.is_open c.args.memory.now) (g.M.Memory.is_open look.new.memory) g.M.Memory.shared
          (g.M.Memory.may_be c.args.memory.now) (g.M.Memory.may_be look.new.memory) (g.M.Memory.extent c.args.memory.now)
          (g.M.Memory.extent look.new.memory) c.args.self.now c.args.self.now c.requires.ready refl look.ensures.size
          look.ensures.reading c.size-bytes.ensures.some look.ensures.stays;
      before = λ m may. c.requires.before m (look.ensures.stays m may);
      below = λ m may. c.requires.below m (look.ensures.stays m may);
      there = c.requires.there;
      asked = sym c.if-not-is_asked.ensures;
    }

pub returns-clause-turns : goal.returns-clause-turns
returns-clause-turns g c =
    let look = c.is_passed_by-idle in
    fetches_before g.M.Memory.shared g.M.Memory.may_be (Stored g.M.Memory.stored g.M.Memory.storing) (asks c.args.queues) c.args.most c.args.number c.args.memory.now
    look.new.memory c.args.self.now c.serve_next.result c.serve_next.new.memory c.serve_next.new.self look.ensures.stays
    (on_known g.M.Memory.stored g.M.Memory.storing c.args.memory.now look.new.memory look.ensures.stores)
    c.serve_next.ensures.turns

pub returns-then-not-is_asked-clause-room : goal.returns-then-not-is_asked-clause-room
returns-then-not-is_asked-clause-room g c =
    λ n is h. g.met.M.Memory.fewer c.args.memory.now (n + 3) n (omega arith) h

pub returns-then-idle-clause-room : goal.returns-then-idle-clause-room
returns-then-idle-clause-room g c =
    λ n is h.
    c.is_passed_by-idle.ensures.room n (g.met.M.Memory.fewer c.args.memory.now (n + 3) (n + 1) (omega arith) h)

pub returns-clause-room : goal.returns-clause-room
returns-clause-room g c =
    λ n is h.
    c.serve_next.ensures.room n is
    (c.is_passed_by-idle.ensures.room (n + 2) (g.met.M.Memory.fewer c.args.memory.now (n + 3) ((n + 2) + 1) (omega arith) h))
