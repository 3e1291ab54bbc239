use Rattle.std.proofs.Common.{◌≡◌, Some, refl, sym, ap, ◌∙◌}
use Rattle.std.specs.Prelude.{slice_get}
use Rattle.std.proofs.lemmas.Option.{slice_get_read}
use Rattle.device_model.specs.World.{PlainQueue}
use Rattle.device_model.specs.Events.{Event as PlainEvent}
use Rattle.device_model.proofs.Lists.{same}
use Rattle.phases.specs.Slots.{slot_of, arrived_unit}
use Rattle.device_steps.specs.Kept.{KeptSeat}
use Rattle.device_steps.specs.Apart.{standing}
use Rattle.device_steps.specs.contracts.device.Device as seen
use Rattle.device_steps.specs.contracts.bay.Bay as bay
use Rattle.device_steps.specs.contracts.seat.Seat as seat
use Rattle.device_steps.proofs.Setting.{list_of, listing, unit_kept, turns_seen, sound_seen}
use Rattle.device_steps.proofs.Entering.{limit_stays, enters}
use Rattle.device_steps.proofs.device.Device.enter.Goals as goal

pub invariant_of-self : goal.invariant_of-self
invariant_of-self c =
    let d = c.self.inside in
    let q = bay.the_view c.behind-self-2.inside in
    let s = seat.the_view c.behind-self-3.inside in
    let s_at : slice_get d.seats.items c.owner-seat.result ≡ Some s =
    slice_get_read d.seats.items c.len-else-unit_index-len.result c.owner-seat.result c.index_mut-3.result.now
    (c.len-else-unit_index-len.ensures ∙ d.seats.ok.0) c.if-seat-len.false c.index_mut-3.ensures.value
    ∙ ap (λ (z : KeptSeat). Some z) (sym c.behind-self-3.view_is) in
    let out = c.phase_enter.new.out in
    let slot = slot_of c.phase_enter.new.slot in
    unit_kept d.units.items d.seats.items c.in-Some.unit_index c.phase_enter.new.unit
    c.owner-seat.result s (listing out s) c.self.invariant s_at
    (limit_stays q.slot c.index_mut.result.now (list_of s) c.phase_enter.result c.phase_enter.new.unit slot out
    c.phase_enter.ensures)

pub returns : goal.returns
returns c shared m sound =
    let d = c.self.inside in
    let q = bay.the_view c.behind-self-2.inside in
    let s = seat.the_view c.behind-self-3.inside in
    let q_was : slice_get d.bays.items c.args.number ≡ Some c.index_mut-2.result.now =
    slice_get_read d.bays.items c.len.result c.args.number c.index_mut-2.result.now (c.len.ensures ∙ d.bays.ok.0)
    c.if-at-len.false c.index_mut-2.ensures.value in
    let q_at : slice_get d.bays.items c.args.number ≡ Some q =
    q_was ∙ ap (λ (z : PlainQueue). Some z) (sym c.behind-self-2.view_is) in
    let before : slice_get d.bays.items c.args.number ≡ Some c.index.result.now =
    slice_get_read d.bays.items c.len.result c.args.number c.index.result.now (c.len.ensures ∙ d.bays.ok.0)
    c.if-at-len.false c.index.ensures in
    let one : q ≡ bay.the_view c.behind-self.inside =
    c.behind-self-2.view_is ∙ same (sym q_was ∙ before) ∙ sym c.behind-self.view_is in
    let unit_index : arrived_unit q.slot ≡ Some c.in-Some.unit_index =
    ap (λ (z : PlainQueue). arrived_unit z.slot) one ∙ sym c.unit.ensures ∙ c.in-Some.is in
    let u_at : slice_get d.units.items c.in-Some.unit_index ≡ Some c.index_mut.result.now =
    slice_get_read d.units.items c.len-2.result c.in-Some.unit_index c.index_mut.result.now
    (c.len-2.ensures ∙ d.units.ok.0) c.if-unit_index-len.false c.index_mut.ensures.value in
    let s_at : slice_get d.seats.items c.owner-seat.result ≡ Some s =
    slice_get_read d.seats.items c.len-else-unit_index-len.result c.owner-seat.result c.index_mut-3.result.now
    (c.len-else-unit_index-len.ensures ∙ d.seats.ok.0) c.if-seat-len.false c.index_mut-3.ensures.value
    ∙ ap (λ (z : KeptSeat). Some z) (sym c.behind-self-3.view_is) in
    turns_seen shared m _ _ (PlainEvent.Enter c.args.number) c.phase_enter.result _ c.self.view_is
    (enters (standing shared m (seen.the_view d)) d.seats.items refl (sound_seen shared m _ _ c.self.view_is sound)
    c.self.invariant.limits c.args.number c.in-Some.unit_index c.owner-seat.result q c.index_mut.result.now s
    c.owner-seat.ensures q_at u_at s_at (slot_of c.phase_enter.new.slot) c.phase_enter.new.unit c.phase_enter.new.out
    q.slot refl unit_index c.phase_enter.result c.phase_enter.ensures)
