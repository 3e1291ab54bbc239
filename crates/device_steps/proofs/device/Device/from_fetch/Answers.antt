use Rattle.std.proofs.Common.{◌≡◌, ◌+◌, ◌*◌, ◌-◌, ◌∙◌, true, [], refl, sym, subst, ap, length, arith}
use Rattle.device_model.specs.Events.{Event}
use Rattle.device_model.specs.Happens.{MayWant}
use Rattle.device_model.specs.Applies.{Applies}
use Rattle.device_steps.specs.Inner.Cursors.{NoneBeforeFetch, NoFetchBelow}
use Rattle.device_steps.specs.Apart.{PlainDevice, standing, Stored}
use Rattle.device_steps.specs.Settling.{asks}
use Rattle.device_steps.proofs.Choosing.{and_next}
use Rattle.device_steps.proofs.Ordering.{none_left}
use Rattle.device_steps.proofs.InMemory.{none_known, still_known, on_known}
use Rattle.device_steps.proofs.EachTurn.{still_ready, serves_before}
use Rattle.device_steps.proofs.Woken.{queue_wants}
use Rattle.device_steps.proofs.device.Device.from_fetch.Goals as goal

pub loop-number-init : goal.loop-number-init
loop-number-init g c =
    let d = c.self.inside in
    let end : c.len-number-end.result ≡ length d.bays.items = omega (arith, d.bays.ok.0, c.len-number-end.ensures) in
    let look = c.first_fetch-first in
    record {
      same = refl;
      some = c.size-looked.ensures.some;
      stays = λ m may. (look.ensures.below m may).0;
      known = look.ensures.stores;
      room = g.met.M.Memory.fewer look.new.memory 58 (58 - 3 * look.result) (omega arith) (look.ensures.room 58 (g.met.M.Memory.fewer c.args.memory.now 60 (58 + 2) (omega arith) c.requires.room));
      reading = look.ensures.reading;
      size = look.ensures.size;
      below = λ m may. (look.ensures.below m may).1;
      all = end ∙ ap (λ (z : PlainDevice). length z.queues) c.self.view_is;
    }

pub serve_queue-requires : goal.serve_queue-requires
serve_queue-requires g c =
    let shared = g.M.Memory.shared in
    let inv = c.loop-number.invariant in
    let same = sym inv.same in
    let n = c.loop-number.number in
    let few = c.requires.ready.few.queues in
    let within = c.loop-number-test.true in
    record {
      most = c.requires.most;
      room = g.met.M.Memory.fewer c.loop-number.memory (58 - 3 * n) 6 (omega (arith, within, inv.all, few)) inv.room;
      ready = still_ready (g.M.Memory.is_open c.args.memory.now) (g.M.Memory.is_open c.loop-number.memory) shared
          (g.M.Memory.may_be c.args.memory.now) (g.M.Memory.may_be c.loop-number.memory)
          (g.M.Memory.extent c.args.memory.now) (g.M.Memory.extent c.loop-number.memory) c.args.self.now c.loop-number.self
          c.requires.ready inv.same inv.size inv.reading inv.some inv.stays;
      before = λ m may. subst (λ k. NoneBeforeFetch (standing shared m k)) same (c.requires.before m (inv.stays m may));
      below = λ m may. subst (λ k. NoFetchBelow (asks c.args.queues) n (standing shared m k)) same (inv.below m may);
      there = omega (arith, c.loop-number-test.true, inv.all, ap (λ (k : PlainDevice). length k.queues) inv.same);
    }

pub returns-in-Ok-Some-clause-turns : goal.returns-in-Ok-Some-clause-turns
returns-in-Ok-Some-clause-turns g c =
    serves_before g.M.Memory.shared g.M.Memory.may_be (Stored g.M.Memory.stored g.M.Memory.storing) (asks c.args.queues) c.args.most c.args.memory.now c.loop-number.memory
    c.args.self.now c.loop-number.self c.in-Ok-Some.served c.serve_queue.new.memory c.serve_queue.new.self
    c.loop-number.invariant.same c.loop-number.invariant.stays
    (on_known g.M.Memory.stored g.M.Memory.storing c.args.memory.now c.loop-number.memory c.loop-number.invariant.known) (rw c.in-Ok-Some.field-0-is at c.in-Ok-Some.ensures.turns)

pub returns-in-Err-clause-turns : goal.returns-in-Err-clause-turns
returns-in-Err-clause-turns g c =
    let shared = g.M.Memory.shared in
    let asked = asks c.args.queues in
    let inv = c.loop-number.invariant in
    let n = c.loop-number.number in
    let d = c.args.self.now in
    let t = c.in-Err.ensures.turns in (
      t.0 ∙ inv.same,
      λ m may.
          let f = t.1 m may in
          let stood = inv.stays m f.0 in
          let wants = subst (λ k. (asked n ≡ true) × MayWant (Event.Fetch n) (standing shared m k)) inv.same f.1 in (
            stood,
            queue_wants asked (standing shared m d) n (c.requires.before m stood) (inv.below m f.0)
                (omega (arith, c.loop-number-test.true, inv.all)) wants,
          ),
      on_known g.M.Memory.stored g.M.Memory.storing c.args.memory.now c.loop-number.memory inv.known c.serve_queue.new.memory []
          t.2,
    )

pub loop-number-preserved : goal.loop-number-preserved
loop-number-preserved g c =
    let shared = g.M.Memory.shared in
    let asked = asks c.args.queues in
    let inv = c.loop-number.invariant in
    let n = c.loop-number.number in
    let d = c.args.self.now in
    let t = rw c.in-Ok-None.field-0-is at c.in-Ok-None.ensures.turns in
    let left = rw c.in-Ok-None.field-0-is at c.in-Ok-None.ensures.room in
    record {
      same = t.0 ∙ inv.same;
      some = c.size-bytes.ensures.some;
      stays = λ m may. inv.stays m (t.1 m may).0;
      known = still_known g.M.Memory.stored g.M.Memory.storing g.met.M.Memory.none c.loop-number.memory c.serve_queue.new.memory
          t.2 ∙ inv.known;
      room = left (58 - 3 * (n + 1)) refl
          (g.met.M.Memory.fewer c.loop-number.memory (58 - 3 * n) ((58 - 3 * (n + 1)) + 3)
          (omega (arith, c.loop-number-test.true, inv.all, c.requires.ready.few.queues)) inv.room);
      reading = c.in-Ok-None.ensures.reading;
      size = c.in-Ok-None.ensures.size ∙ inv.size;
      below = λ m may.
          and_next (λ i. asked i ≡ true → Applies (standing shared m d) (Event.Fetch i) → ⊥) n (inv.below m (t.1 m may).0)
          (subst (λ k. asked n ≡ true → Applies (standing shared m k) (Event.Fetch n) → ⊥) inv.same (t.1 m may).1);
      all = inv.all;
    }

pub returns-clause-turns : goal.returns-clause-turns
returns-clause-turns g c =
    let shared = g.M.Memory.shared in
    let inv = c.loop-number.invariant in
    let d = c.args.self.now in (
      inv.same,
      λ m may.
          let stood = inv.stays m may in (
            stood,
            none_left (asks c.args.queues) (standing shared m d) (c.requires.before m stood)
                (λ i lt. inv.below m may i (omega (arith, lt, c.loop-number-test.false, inv.all))),
          ),
      none_known g.M.Memory.stored g.M.Memory.storing g.met.M.Memory.none c.args.memory.now c.loop-number.memory inv.known,
    )
