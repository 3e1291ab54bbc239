use Rattle.std.proofs.Common.{◌≡◌, ◌∙◌, refl, sym, ap, subst, length, arith}
use Rattle.device_model.specs.Events.{Event}
use Rattle.device_model.specs.Applies.{Applies}
use Rattle.device_steps.specs.Apart.{PlainDevice, standing, Stored}
use Rattle.device_steps.specs.Inner.Apart.{TurnsIn}
use Rattle.device_steps.specs.Inner.Cursors.{NoStart, NoneBefore, NoDirect, NoDirectBelow, direct_from, StepsNext, Sees, TurnsBy}
use Rattle.device_steps.proofs.Choosing.{and_next}
use Rattle.device_steps.specs.declared.cursor.Cursor.TheVariants as cursor
use Rattle.device_steps.specs.Settling.{asks}
use Rattle.device_steps.proofs.InMemory.{each_before, each_from, still_known, on_known, turn_known}
use Rattle.device_steps.proofs.EachTurn.{did_in, idle_in, SeenToo, by_other, one_in, still_ready, turns_before}
use Rattle.device_steps.proofs.Woken.{directs_from, directs_past, direct_next}
use Rattle.device_steps.proofs.device.Device.from_direct.Goals as goal

pub loop-number-init : goal.loop-number-init
loop-number-init g c =
    let d = c.self.inside in
    let queues = length c.args.self.now.queues in
    let many : c.len.result ≡ length d.bays.items = omega (arith, d.bays.ok.0, c.len.ensures) in
    let end : c.len-number-end.result ≡ length d.bays.items = omega (arith, d.bays.ok.0, c.len-number-end.ensures) in
    let same : length d.bays.items ≡ queues = ap (λ (z : PlainDevice). length z.queues) c.self.view_is in
    let first = c.first_direct-number.ensures ∙ ap (λ n. direct_from c.args.cursor n) (many ∙ same) in
    record {
      same = refl;
      some = c.requires.ready.some;
      stays = λ m may. may;
      known = refl;
      room = c.requires.room;
      reading = c.requires.ready.reading;
      size = refl;
      below = λ m may.
          let w = standing g.M.Memory.shared m c.args.self.now in
          subst (λ n. NoDirectBelow n w) (sym first) (directs_from w c.args.cursor (c.requires.before m may));
      all = end ∙ same;
    }

pub returns-then-answered-clause-turns : goal.returns-then-answered-clause-turns
returns-then-answered-clause-turns g c =
    let shared = g.M.Memory.shared in
    let asked = asks c.args.queues in
    let n = c.loop-number.number in
    let call = c.direct_in-answered in
    let x = c.args.memory.now in
    let z = c.loop-number.memory in
    let y = call.new.memory in
    let d = c.args.self.now in
    let d' = call.new.self in
    let before = g.M.Memory.may_be x in
    let middle = g.M.Memory.may_be z in
    let after = g.M.Memory.may_be y in
    let inv = c.loop-number.invariant in
    let stored = Stored g.M.Memory.stored g.M.Memory.storing in
    let turn = subst (λ k. TurnsIn shared middle after (stored x y) k (Event.Direct n) call.result d') inv.same
    (turn_known g.M.Memory.stored g.M.Memory.storing x z y shared middle after c.loop-number.self (Event.Direct n) call.result d'
    inv.known call.ensures.turns) in
    one_in shared g.M.Memory.may_be stored asked c.args.most x d (cursor.Direct n) c.one.result y d' c.requires.most c.one.ensures
    c.size-bytes.ensures.some
    (each_before shared before middle after
    (λ found left seen.
    StepsNext asked (SeenToo (stored x y) left seen) (standing shared found d) (cursor.Direct n) (standing shared left d')) inv.stays
    (each_from shared middle after
    (λ found left seen. TurnsBy (Sees (stored x y) left seen) (standing shared found d) (Event.Direct n) (standing shared left d'))
    (λ found left seen.
    StepsNext asked (SeenToo (stored x y) left seen) (standing shared found d) (cursor.Direct n) (standing shared left d'))
    (λ found left seen was t.
    direct_next asked (SeenToo (stored x y) left seen) (standing shared found d) (standing shared left d') n
    (c.requires.start found (inv.stays found was)) (inv.below found was)
    (omega (arith, c.loop-number-test.true, inv.all))
    (by_other (stored x y) left seen (standing shared found d) (Event.Direct n) (standing shared left d') (λ is. is) t))
    (did_in shared middle after (stored x y) d (Event.Direct n) call.result d' c.if-answered.true turn)))

pub loop-number-preserved : goal.loop-number-preserved
loop-number-preserved g c =
    let shared = g.M.Memory.shared in
    let n = c.loop-number.number in
    let call = c.direct_in-answered in
    let inv = c.loop-number.invariant in
    let d = c.args.self.now in
    let middle = g.M.Memory.may_be c.loop-number.memory in
    let after = g.M.Memory.may_be call.new.memory in
    let turn = subst (λ k. TurnsIn shared middle after (Stored g.M.Memory.stored g.M.Memory.storing c.loop-number.memory call.new.memory) k (Event.Direct n) call.result call.new.self) inv.same
    call.ensures.turns in
    let here = idle_in shared middle after (Stored g.M.Memory.stored g.M.Memory.storing c.loop-number.memory call.new.memory) d (Event.Direct n) call.result call.new.self c.if-answered.false
    c.size-bytes.ensures.some turn in
    record {
      same = here.0;
      some = c.size-bytes.ensures.some;
      stays = λ m may. inv.stays m (here.1 m may).0;
      known = still_known g.M.Memory.stored g.M.Memory.storing g.met.M.Memory.none c.loop-number.memory call.new.memory here.2
          ∙ inv.known;
      room = call.ensures.room 60 (omega arith) inv.room;
      reading = call.ensures.reading inv.reading;
      size = call.ensures.size ∙ inv.size;
      below = λ m may.
          and_next (λ i. Applies (standing shared m d) (Event.Direct i) → ⊥) n (inv.below m (here.1 m may).0)
          (here.1 m may).1;
      all = inv.all;
    }

pub direct_in-answered-requires : goal.direct_in-answered-requires
direct_in-answered-requires g c =
    let inv = c.loop-number.invariant in
    let ready = still_ready (g.M.Memory.is_open c.args.memory.now) (g.M.Memory.is_open c.loop-number.memory) g.M.Memory.shared
    (g.M.Memory.may_be c.args.memory.now) (g.M.Memory.may_be c.loop-number.memory) (g.M.Memory.extent c.args.memory.now)
    (g.M.Memory.extent c.loop-number.memory) c.args.self.now c.loop-number.self c.requires.ready inv.same inv.size inv.reading
    inv.some inv.stays in
    record { sound = ready.sound; fits = ready.fits }

pub from_seats-requires : goal.from_seats-requires
from_seats-requires g c =
    let shared = g.M.Memory.shared in
    let inv = c.loop-number.invariant in
    let before = g.M.Memory.may_be c.args.memory.now in
    let middle = g.M.Memory.may_be c.loop-number.memory in
    let d = c.args.self.now in
    let v = c.loop-number.self in
    record {
      most = c.requires.most;
      room = inv.room;
      ready = still_ready (g.M.Memory.is_open c.args.memory.now) (g.M.Memory.is_open c.loop-number.memory) shared before middle
          (g.M.Memory.extent c.args.memory.now) (g.M.Memory.extent c.loop-number.memory) d v c.requires.ready inv.same inv.size
          inv.reading inv.some inv.stays;
      start = λ m may. subst (λ k. NoStart (standing shared m k)) (sym inv.same) (c.requires.start m (inv.stays m may));
      direct = λ m may.
          subst (λ k. NoDirect (standing shared m k)) (sym inv.same)
          (directs_past (standing shared m d) c.loop-number.number (omega (arith, c.loop-number-test.false, inv.all))
          (inv.below m may));
      before = λ m may.
          subst (λ k. NoneBefore c.args.cursor (standing shared m k)) (sym inv.same) (c.requires.before m (inv.stays m may));
    }

pub returns-clause-turns : goal.returns-clause-turns
returns-clause-turns g c =
    turns_before g.M.Memory.shared g.M.Memory.may_be (Stored g.M.Memory.stored g.M.Memory.storing) (asks c.args.queues) c.args.most c.args.memory.now c.loop-number.memory
    c.args.self.now c.loop-number.self c.from_seats.result c.from_seats.new.memory c.from_seats.new.self
    c.loop-number.invariant.same c.loop-number.invariant.stays
    (on_known g.M.Memory.stored g.M.Memory.storing c.args.memory.now c.loop-number.memory c.loop-number.invariant.known)
    c.from_seats.ensures.turns
