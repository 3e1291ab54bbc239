use Rattle.std.proofs.Common.{◌≡◌, ◌∙◌, refl, sym, ap, subst, length, arith}
use Rattle.std.proofs.lemmas.List.{length-map}
use Rattle.device_model.specs.Order.{of_seat, NoneApplies}
use Rattle.device_steps.specs.Kept.{seat_of}
use Rattle.device_steps.specs.Apart.{PlainDevice, standing, Stored}
use Rattle.device_steps.specs.Inner.Cursors.{NoStart, NoneBefore, NoDirect, NoSeat, NoSeatBelow, seat_from, StepsNext, Sees, TurnsFirst, TurnsFirstIn}
use Rattle.device_steps.proofs.Choosing.{and_next}
use Rattle.device_steps.specs.Settling.{asks}
use Rattle.device_steps.proofs.InMemory.{each_before, each_from, still_known, on_known}
use Rattle.device_steps.proofs.EachTurn.{firsts_in, first_known, none_in, SeenToo, first_other, one_in, still_ready, turns_before}
use Rattle.device_steps.proofs.Woken.{seats_from, seats_past, seat_next}
use Rattle.device_steps.proofs.device.Device.from_seats.Goals as goal

pub loop-number-init : goal.loop-number-init
loop-number-init g c =
    let d = c.self.inside in
    let seats = length c.args.self.now.seats in
    let many : c.len.result ≡ length d.seats.items = omega (arith, d.seats.ok.0, c.len.ensures) in
    let end : c.len-number-end.result ≡ length d.seats.items = omega (arith, d.seats.ok.0, c.len-number-end.ensures) in
    let same : length d.seats.items ≡ seats =
    sym (length-map d.seats.items seat_of) ∙ ap (λ (z : PlainDevice). length z.seats) c.self.view_is in
    let first = c.first_seat-number.ensures ∙ ap (λ n. seat_from c.args.cursor n) (many ∙ same) in
    record {
      same = refl;
      some = c.requires.ready.some;
      stays = λ m may. may;
      known = refl;
      room = c.requires.room;
      reading = c.requires.ready.reading;
      size = refl;
      below = λ m may.
          let w = standing g.M.Memory.shared m c.args.self.now in
          subst (λ n. NoSeatBelow n w) (sym first) (seats_from w c.args.cursor (c.requires.before m may));
      all = end ∙ same;
    }

pub returns-then-turned-clause-turns : goal.returns-then-turned-clause-turns
returns-then-turned-clause-turns g c =
    let shared = g.M.Memory.shared in
    let asked = asks c.args.queues in
    let n = c.loop-number.number in
    let call = c.turn_seat-turned in
    let x = c.args.memory.now in
    let z = c.loop-number.memory in
    let y = call.new.memory in
    let d = c.args.self.now in
    let d' = call.new.self in
    let next = c.after_seat.result in
    let before = g.M.Memory.may_be x in
    let middle = g.M.Memory.may_be z in
    let after = g.M.Memory.may_be y in
    let inv = c.loop-number.invariant in
    let stored = Stored g.M.Memory.stored g.M.Memory.storing in
    let turn = subst (λ k. TurnsFirstIn shared middle after (stored x y) (of_seat n) k call.result d') inv.same
    (first_known g.M.Memory.stored g.M.Memory.storing x z y shared middle after (of_seat n) c.loop-number.self call.result d'
    inv.known call.ensures.turns) in
    one_in shared g.M.Memory.may_be stored asked c.args.most x d next c.one.result y d' c.requires.most c.one.ensures
    c.size-bytes.ensures.some
    (each_before shared before middle after
    (λ found left seen. StepsNext asked (SeenToo (stored x y) left seen) (standing shared found d) next (standing shared left d')) inv.stays
    (each_from shared middle after
    (λ found left seen. TurnsFirst (Sees (stored x y) left seen) (of_seat n) (standing shared found d) (standing shared left d'))
    (λ found left seen. StepsNext asked (SeenToo (stored x y) left seen) (standing shared found d) next (standing shared left d'))
    (λ found left seen was t.
    seat_next asked (SeenToo (stored x y) left seen) (standing shared found d) (standing shared left d') n next
    (c.requires.start found (inv.stays found was)) (c.requires.direct found (inv.stays found was)) (inv.below found was)
    (omega (arith, c.loop-number-test.true, inv.all))
    (first_other (stored x y) left seen (of_seat n) (standing shared found d) (standing shared left d')
    ((λ is. is), ((λ is. is), ((λ is. is), ((λ is. is), ((λ is. is), ((λ is. is), tt)))))) t) (c.after_seat.ensures shared left))
    (firsts_in shared middle after (stored x y) (of_seat n) d call.result d' c.if-turned.true turn)))

pub loop-number-preserved : goal.loop-number-preserved
loop-number-preserved g c =
    let shared = g.M.Memory.shared in
    let n = c.loop-number.number in
    let call = c.turn_seat-turned in
    let inv = c.loop-number.invariant in
    let d = c.args.self.now in
    let middle = g.M.Memory.may_be c.loop-number.memory in
    let after = g.M.Memory.may_be call.new.memory in
    let stored = Stored g.M.Memory.stored g.M.Memory.storing c.loop-number.memory call.new.memory in
    let turn = subst (λ k. TurnsFirstIn shared middle after stored (of_seat n) k call.result call.new.self) inv.same
    call.ensures.turns in
    let here = none_in shared middle after stored (of_seat n) d call.result call.new.self c.if-turned.false turn in
    record {
      same = here.0;
      some = c.size-bytes.ensures.some;
      stays = λ m may. inv.stays m (here.1 m may).0;
      known = still_known g.M.Memory.stored g.M.Memory.storing g.met.M.Memory.none c.loop-number.memory call.new.memory here.2
          ∙ inv.known;
      room = call.ensures.room 60 (omega arith) inv.room;
      reading = call.ensures.reading;
      size = call.ensures.size ∙ inv.size;
      below = λ m may.
          and_next (λ k. NoneApplies (standing shared m d) (of_seat k)) n (inv.below m (here.1 m may).0) (here.1 m may).1;
      all = inv.all;
    }

pub turn_seat-turned-requires : goal.turn_seat-turned-requires
turn_seat-turned-requires g c =
    let inv = c.loop-number.invariant in
    record {
      ready = still_ready (g.M.Memory.is_open c.args.memory.now) (g.M.Memory.is_open c.loop-number.memory) g.M.Memory.shared
          (g.M.Memory.may_be c.args.memory.now) (g.M.Memory.may_be c.loop-number.memory)
          (g.M.Memory.extent c.args.memory.now) (g.M.Memory.extent c.loop-number.memory) c.args.self.now c.loop-number.self
          c.requires.ready inv.same inv.size inv.reading inv.some inv.stays;
    }

pub from_enter-requires : goal.from_enter-requires
from_enter-requires g c =
    let shared = g.M.Memory.shared in
    let inv = c.loop-number.invariant in
    let before = g.M.Memory.may_be c.args.memory.now in
    let middle = g.M.Memory.may_be c.loop-number.memory in
    let d = c.args.self.now in
    let v = c.loop-number.self in
    record {
      most = c.requires.most;
      room = inv.room;
      ready = still_ready (g.M.Memory.is_open c.args.memory.now) (g.M.Memory.is_open c.loop-number.memory) shared before middle
          (g.M.Memory.extent c.args.memory.now) (g.M.Memory.extent c.loop-number.memory) d v c.requires.ready inv.same inv.size
          inv.reading inv.some inv.stays;
      start = λ m may. subst (λ k. NoStart (standing shared m k)) (sym inv.same) (c.requires.start m (inv.stays m may));
      direct = λ m may. subst (λ k. NoDirect (standing shared m k)) (sym inv.same) (c.requires.direct m (inv.stays m may));
      seat = λ m may.
          subst (λ k. NoSeat (standing shared m k)) (sym inv.same)
          (seats_past (standing shared m d) c.loop-number.number (omega (arith, c.loop-number-test.false, inv.all))
          (inv.below m may));
      before = λ m may.
          subst (λ k. NoneBefore c.args.cursor (standing shared m k)) (sym inv.same) (c.requires.before m (inv.stays m may));
    }

pub returns-clause-turns : goal.returns-clause-turns
returns-clause-turns g c =
    turns_before g.M.Memory.shared g.M.Memory.may_be (Stored g.M.Memory.stored g.M.Memory.storing) (asks c.args.queues) c.args.most c.args.memory.now c.loop-number.memory
    c.args.self.now c.loop-number.self c.from_enter.result c.from_enter.new.memory c.from_enter.new.self
    c.loop-number.invariant.same c.loop-number.invariant.stays
    (on_known g.M.Memory.stored g.M.Memory.storing c.args.memory.now c.loop-number.memory c.loop-number.invariant.known)
    c.from_enter.ensures.turns
