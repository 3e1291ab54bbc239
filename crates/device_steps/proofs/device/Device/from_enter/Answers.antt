use Rattle.std.proofs.Common.{List, ℕ, ◌≡◌, ◌≤◌, ◌∙◌, refl, sym, ap, subst, length, arith}
use Rattle.device_model.specs.Events.{Event}
use Rattle.device_model.specs.Applies.{Applies}
use Rattle.phases.proofs.Behind.{each_read}
use Rattle.device_steps.specs.Apart.{PlainDevice, standing, Stored}
use Rattle.device_steps.specs.Inner.Cursors.{NoneBeforeFetch, NoEnterBelow, enter_from, StepsNext}
use Rattle.device_steps.specs.Settling.{asks}
use Rattle.device_steps.proofs.Choosing.{and_next}
use Rattle.device_steps.proofs.InMemory.{none_known}
use Rattle.device_steps.proofs.EachTurn.{sees_any, alone_did, alone_idle, SeenToo, by_other, one_in, still_ready, turns_before}
use Rattle.device_steps.proofs.Woken.{enters_from, enters_past, enter_next}
use Rattle.device_steps.proofs.device.Device.from_enter.Goals as goal

pub loop-number-init : goal.loop-number-init
loop-number-init g c =
    let d = c.self.inside in
    let queues = length c.args.self.now.queues in
    let end : c.len-number-end.result ≡ length d.bays.items = omega (arith, d.bays.ok.0, c.len-number-end.ensures) in
    let many : c.len.result ≡ length d.bays.items = omega (arith, d.bays.ok.0, c.len.ensures) in
    let same : length d.bays.items ≡ queues = ap (λ (z : PlainDevice). length z.queues) c.self.view_is in
    let first = c.first_enter-number.ensures ∙ ap (λ n. enter_from c.args.cursor n) (many ∙ same) in
    record {
      same = refl;
      below = λ m may.
          let w = standing g.M.Memory.shared m c.args.self.now in
          subst (λ n. NoEnterBelow n w) (sym first) (enters_from w c.args.cursor (c.requires.before m may));
      all = end ∙ same;
    }

pub enter-requires : goal.enter-requires
enter-requires g c =
    let some = c.requires.ready.some in
    record {
      working = subst (λ (z : PlainDevice). 1 ≤ z.workers) (sym c.loop-number.invariant.same)
          (c.requires.ready.sound some.0 some.1).working;
    }

pub returns-then-enter-clause-turns : goal.returns-then-enter-clause-turns
returns-then-enter-clause-turns g c =
    let shared = g.M.Memory.shared in
    let asked = asks c.args.queues in
    let n = c.loop-number.number in
    let x = c.args.memory.now in
    let d = c.args.self.now in
    let d' = c.enter.new.self in
    let next = c.after_enter.result in
    let may_be = g.M.Memory.may_be x in
    let inv = c.loop-number.invariant in
    let stored = Stored g.M.Memory.stored g.M.Memory.storing in
    let nothing = none_known g.M.Memory.stored g.M.Memory.storing g.met.M.Memory.none x x refl in
    one_in shared g.M.Memory.may_be stored asked c.args.most x d next c.one.result x d' c.requires.most c.one.ensures
    c.requires.ready.some
    (each_read shared may_be may_be
    (λ found left seen. StepsNext asked (SeenToo (stored x x) left seen) (standing shared found d) next (standing shared left d'))
    (λ m may. may)
    (λ m may.
    enter_next asked (SeenToo (stored x x) m m) (standing shared m d) (standing shared m d') n next (c.requires.start m may)
    (c.requires.direct m may) (c.requires.seat m may) (inv.below m may) (omega (arith, c.loop-number-test.true, inv.all))
    (by_other (stored x x) m m (standing shared m d) (Event.Enter n) (standing shared m d') (λ is. is)
    (sees_any (stored x x) m m (standing shared m d) (Event.Enter n) (standing shared m d') nothing
    (alone_did shared m d c.loop-number.self (Event.Enter n) c.enter.result d' c.if-enter.true inv.same tt
    (c.requires.ready.sound m may) c.enter.ensures)))
    (c.after_enter.ensures shared m)))

pub loop-number-preserved : goal.loop-number-preserved
loop-number-preserved g c =
    let shared = g.M.Memory.shared in
    let n = c.loop-number.number in
    let inv = c.loop-number.invariant in
    let d = c.args.self.now in
    let some = c.requires.ready.some in
    let here : (m : List ℕ) → g.M.Memory.may_be c.args.memory.now m
    → (c.enter.new.self ≡ d) × (Applies (standing shared m d) (Event.Enter n) → ⊥) =
    λ m may.
    alone_idle shared m d c.loop-number.self (Event.Enter n) c.enter.result c.enter.new.self c.if-enter.false inv.same
    (c.requires.ready.sound m may) c.enter.ensures in
    record {
      same = (here some.0 some.1).0;
      below = λ m may.
          and_next (λ i. Applies (standing shared m d) (Event.Enter i) → ⊥) n (inv.below m may) (here m may).1;
      all = inv.all;
    }

pub from_fetch-requires : goal.from_fetch-requires
from_fetch-requires g c =
    let shared = g.M.Memory.shared in
    let inv = c.loop-number.invariant in
    let x = c.args.memory.now in
    let d = c.args.self.now in
    record {
      most = c.requires.most;
      room = c.requires.room;
      ready = still_ready (g.M.Memory.is_open x) (g.M.Memory.is_open x) shared (g.M.Memory.may_be x) (g.M.Memory.may_be x)
          (g.M.Memory.extent x) (g.M.Memory.extent x) d c.loop-number.self c.requires.ready inv.same refl
          c.requires.ready.reading c.requires.ready.some (λ m may. may);
      before = λ m may.
          subst (λ k. NoneBeforeFetch (standing shared m k)) (sym inv.same)
          (enters_past (standing shared m d) c.loop-number.number (omega (arith, c.loop-number-test.false, inv.all))
          (c.requires.start m may) (c.requires.direct m may) (c.requires.seat m may) (inv.below m may));
    }

pub returns-clause-turns : goal.returns-clause-turns
returns-clause-turns g c =
    let x = c.args.memory.now in
    turns_before g.M.Memory.shared g.M.Memory.may_be (Stored g.M.Memory.stored g.M.Memory.storing) (asks c.args.queues) c.args.most x x c.args.self.now c.loop-number.self
    c.from_fetch.result c.from_fetch.new.memory c.from_fetch.new.self c.loop-number.invariant.same (λ m may. may)
    (λ k ws h. h) c.from_fetch.ensures.turns
