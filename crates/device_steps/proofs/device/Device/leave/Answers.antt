use Rattle.std.proofs.Common.{◌≡◌, Some, sym, ap, refl, ◌∙◌, length, arith}
use Rattle.device_model.specs.Events.{Event}
use Rattle.phases.specs.Parts.{leaving_unit, hand_of}
use Rattle.device_steps.specs.Kept.{KeptSeat}
use Rattle.device_steps.specs.Apart.{standing}
use Rattle.device_steps.specs.contracts.device.Device.{the_view}
use Rattle.device_steps.specs.contracts.seat.Seat as seat
use Rattle.device_steps.proofs.Setting.{turns_seen, sound_seen}
use Rattle.device_steps.proofs.Seats.{keeps_unit, found, one_there, with_unit_and_seat}
use Rattle.device_steps.proofs.Leave.{seat_with, keeps_limit, leaves}
use Rattle.device_steps.proofs.device.Device.leave.Goals as goal

pub invariant_of-self : goal.invariant_of-self
invariant_of-self c =
    let d = c.self.inside in
    let size : c.len.result ≡ length d.seats.items = omega (arith, d.seats.ok.0, c.len.ensures) in
    let k = c.args.number in
    let s : KeptSeat = seat.the_view c.seat.inside in
    let at = found d.seats.items c.len.result k s c.index_mut-seat.result.now size c.if-at-len.false
    c.index_mut-seat.ensures.value c.seat.view_is in
    keeps_unit d.units.items d.seats.items k c.in-Some.unit_index c.phase_leave.new.unit s _ at
    (keeps_limit s.hand c.index_mut.result.now c.phase_leave.new.unit c.seat.inside.out c.phase_leave.new.out
    c.phase_leave.result (hand_of c.phase_leave.new.hand) c.phase_leave.ensures)
    c.self.invariant

pub returns : goal.returns
returns c shared m sound =
    let d = c.self.inside in
    let size : c.len.result ≡ length d.seats.items = omega (arith, d.seats.ok.0, c.len.ensures) in
    let many : c.len-2.result ≡ length d.units.items = omega (arith, d.units.ok.0, c.len-2.ensures) in
    let k = c.args.number in
    let seen : KeptSeat = seat.the_view c.behind-self.inside in
    let s : KeptSeat = seat.the_view c.seat.inside in
    let at_seen = found d.seats.items c.len.result k seen c.index.result.now size c.if-at-len.false
    c.index.ensures c.behind-self.view_is in
    let at = found d.seats.items c.len.result k s c.index_mut-seat.result.now size c.if-at-len.false
    c.index_mut-seat.ensures.value c.seat.view_is in
    let there = found d.units.items c.len-2.result c.in-Some.unit_index c.index_mut.result.now c.index_mut.result.now
    many c.if-unit_index-len.false c.index_mut.ensures.value refl in
    let one = one_there d.seats.items k s seen at at_seen in
    let unit : leaving_unit s.hand ≡ Some c.in-Some.unit_index =
    ap (λ (z : KeptSeat). leaving_unit z.hand) one ∙ sym c.in-Some.ensures in
    let t = seat_with (hand_of c.phase_leave.new.hand) c.phase_leave.new.out in
    let w = standing shared m (the_view d) in
    let next = with_unit_and_seat w c.in-Some.unit_index c.phase_leave.new.unit d.seats.items k t in
    turns_seen shared m _ _ (Event.Leave k) c.phase_leave.result next c.self.view_is
    (leaves w d.seats.items k c.in-Some.unit_index s.hand c.index_mut.result.now c.phase_leave.new.unit
    c.seat.inside.out c.phase_leave.new.out (hand_of c.phase_leave.new.hand) c.phase_leave.result
    (sound_seen shared m _ _ c.self.view_is sound) c.self.invariant.limits refl at unit there c.phase_leave.ensures)
