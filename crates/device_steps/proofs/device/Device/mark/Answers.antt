use Rattle.std.proofs.Common.{◌≡◌, ◌<◌, ℕ, true, false, Some, subst, refl, sym, ap, ◌∙◌, arith}
use Rattle.std.specs.Prelude.{slice_get, slice_set, length}
use Rattle.std.proofs.lemmas.Option.{slice_get_read}
use Rattle.device_model.specs.World.{Opened}
use Rattle.device_model.specs.Events.{Event as PlainEvent}
use Rattle.device_model.specs.Turns.{Turns}
use Rattle.phases.specs.declared.marking.Visited.TheVariants as visited
use Rattle.device_steps.specs.Apart.{standing}
use Rattle.device_steps.specs.Kept.{KeptSeat}
use Rattle.device_steps.specs.contracts.device.Device as seen
use Rattle.device_steps.specs.contracts.seat.Seat as seat
use Rattle.device_steps.proofs.Setting.{list_of, listing, unit_kept, turns_seen, sound_seen}
use Rattle.device_steps.proofs.Placing.{some_there}
use Rattle.device_steps.specs.Aside.{KeptAside}
use Rattle.device_steps.specs.Inner.Kept.{HasLists}
use Rattle.device_steps.proofs.Marking.{limit_stays, marked_in, visits}
use Rattle.device_steps.proofs.Resuming.{with_waiting}
use Rattle.device_steps.proofs.device.Device.mark.Goals as goal

pub invariant_of-self-in-Nothing : goal.invariant_of-self-in-Nothing
invariant_of-self-in-Nothing c =
    let d = c.self.inside in
    let f = c.in-Some.open in
    let s = seat.the_view c.behind-self.inside in
    let some : 0 < length d.seats.items =
    omega (arith, some_there d.seats.len c.if-is_empty.ensures, d.seats.ok.0) in
    let s_at : slice_get d.seats.items 0 ≡ Some s =
    slice_get_read d.seats.items (length d.seats.items) 0 c.index_mut-2.result.now refl some
    c.index_mut-2.ensures.value ∙ ap (λ (z : KeptSeat). Some z) (sym c.behind-self.view_is) in
    let out = c.phase_visit.new.out in
    unit_kept d.units.items d.seats.items c.in-Some-next_unit.unit_index c.phase_visit.new.unit 0 s
    (listing out s) c.self.invariant s_at
    (limit_stays d.inventory f f.function.left c.index_mut.result.now (list_of s) c.phase_visit.result c.phase_visit.new.unit
    c.phase_visit.new.opened out c.phase_visit.ensures)

pub invariant_of-self-in-Other : goal.invariant_of-self-in-Other
invariant_of-self-in-Other c =
    let d = c.self.inside in
    let f = c.in-Some.open in
    let s = seat.the_view c.behind-self.inside in
    let some : 0 < length d.seats.items =
    omega (arith, some_there d.seats.len c.if-is_empty.ensures, d.seats.ok.0) in
    let s_at : slice_get d.seats.items 0 ≡ Some s =
    slice_get_read d.seats.items (length d.seats.items) 0 c.index_mut-2.result.now refl some
    c.index_mut-2.ensures.value ∙ ap (λ (z : KeptSeat). Some z) (sym c.behind-self.view_is) in
    let out = c.phase_visit.new.out in
    unit_kept d.units.items d.seats.items c.in-Some-next_unit.unit_index c.phase_visit.new.unit 0 s
    (listing out s) c.self.invariant s_at
    (limit_stays d.inventory f f.function.left c.index_mut.result.now (list_of s) c.phase_visit.result c.phase_visit.new.unit
    c.phase_visit.new.opened out c.phase_visit.ensures)

pub invariant_of-self-2 : goal.invariant_of-self-2
invariant_of-self-2 c =
    let d = c.self.inside in
    let f = c.in-Some.open in
    let s = seat.the_view c.behind-self.inside in
    let some : 0 < length d.seats.items =
    omega (arith, some_there d.seats.len c.if-is_empty.ensures, d.seats.ok.0) in
    let s_at : slice_get d.seats.items 0 ≡ Some s =
    slice_get_read d.seats.items (length d.seats.items) 0 c.index_mut-2.result.now refl some
    c.index_mut-2.ensures.value ∙ ap (λ (z : KeptSeat). Some z) (sym c.behind-self.view_is) in
    let out = c.phase_visit.new.out in
    subst (λ (places : ℕ). HasLists (slice_set d.units.items c.in-Some-next_unit.unit_index c.phase_visit.new.unit)
    (slice_set d.seats.items 0 (listing out s)) places d.port.limit)
    (sym (ap (λ (k : KeptAside). k.limit) c.wake.ensures.all))
    (unit_kept d.units.items d.seats.items c.in-Some-next_unit.unit_index c.phase_visit.new.unit 0 s
    (listing out s) c.self.invariant s_at
    (limit_stays d.inventory f f.function.left c.index_mut.result.now (list_of s) c.phase_visit.result c.phase_visit.new.unit
    c.phase_visit.new.opened out c.phase_visit.ensures))

pub returns-in-Nothing : goal.returns-in-Nothing
returns-in-Nothing c shared m sound =
    let firm = sound_seen shared m _ _ c.self.view_is sound in
    let d = c.self.inside in
    let f = c.in-Some.open in
    let s = seat.the_view c.behind-self.inside in
    let some : 0 < length d.seats.items =
    omega (arith, some_there d.seats.len c.if-is_empty.ensures, d.seats.ok.0) in
    let s_at : slice_get d.seats.items 0 ≡ Some s =
    slice_get_read d.seats.items (length d.seats.items) 0 c.index_mut-2.result.now refl some
    c.index_mut-2.ensures.value ∙ ap (λ (z : KeptSeat). Some z) (sym c.behind-self.view_is) in
    let u_at : slice_get d.units.items c.in-Some-next_unit.unit_index ≡ Some c.index_mut.result.now =
    slice_get_read d.units.items c.len.result c.in-Some-next_unit.unit_index c.index_mut.result.now
    (c.len.ensures ∙ d.units.ok.0) c.if-unit_index-len.false c.index_mut.ensures.value in
    let first : slice_get f.function.left 0 ≡ Some c.in-Some-next_unit.unit_index =
    ap (λ (o : Opened). slice_get o.function.left 0) (sym c.open.view_is) ∙ sym c.next_unit.ensures
    ∙ c.in-Some-next_unit.is in
    turns_seen shared m _ _ PlainEvent.Mark false _ c.self.view_is
    (visits (standing shared m (seen.the_view d)) d.seats.items refl firm.room firm.addressed
    c.self.invariant.limits f c.in-Some.is c.in-Some-next_unit.unit_index c.index_mut.result.now s u_at s_at
    c.phase_visit.new.unit c.phase_visit.new.opened c.phase_visit.new.out f.function.left refl first
    visited.Nothing (rw c.in-Nothing.is at c.phase_visit.ensures))

pub returns-in-Other : goal.returns-in-Other
returns-in-Other c shared m sound =
    let firm = sound_seen shared m _ _ c.self.view_is sound in
    let d = c.self.inside in
    let f = c.in-Some.open in
    let s = seat.the_view c.behind-self.inside in
    let some : 0 < length d.seats.items =
    omega (arith, some_there d.seats.len c.if-is_empty.ensures, d.seats.ok.0) in
    let s_at : slice_get d.seats.items 0 ≡ Some s =
    slice_get_read d.seats.items (length d.seats.items) 0 c.index_mut-2.result.now refl some
    c.index_mut-2.ensures.value ∙ ap (λ (z : KeptSeat). Some z) (sym c.behind-self.view_is) in
    let u_at : slice_get d.units.items c.in-Some-next_unit.unit_index ≡ Some c.index_mut.result.now =
    slice_get_read d.units.items c.len.result c.in-Some-next_unit.unit_index c.index_mut.result.now
    (c.len.ensures ∙ d.units.ok.0) c.if-unit_index-len.false c.index_mut.ensures.value in
    let first : slice_get f.function.left 0 ≡ Some c.in-Some-next_unit.unit_index =
    ap (λ (o : Opened). slice_get o.function.left 0) (sym c.open.view_is) ∙ sym c.next_unit.ensures
    ∙ c.in-Some-next_unit.is in
    turns_seen shared m _ _ PlainEvent.Mark true _ c.self.view_is
    (visits (standing shared m (seen.the_view d)) d.seats.items refl firm.room firm.addressed
    c.self.invariant.limits f c.in-Some.is c.in-Some-next_unit.unit_index c.index_mut.result.now s u_at s_at
    c.phase_visit.new.unit c.phase_visit.new.opened c.phase_visit.new.out f.function.left refl first
    visited.Other (rw c.in-Other.is at c.phase_visit.ensures))

pub returns : goal.returns
returns c shared m sound =
    let firm = sound_seen shared m _ _ c.self.view_is sound in
    let d = c.self.inside in
    let f = c.in-Some.open in
    let s = seat.the_view c.behind-self.inside in
    let some : 0 < length d.seats.items =
    omega (arith, some_there d.seats.len c.if-is_empty.ensures, d.seats.ok.0) in
    let s_at : slice_get d.seats.items 0 ≡ Some s =
    slice_get_read d.seats.items (length d.seats.items) 0 c.index_mut-2.result.now refl some
    c.index_mut-2.ensures.value ∙ ap (λ (z : KeptSeat). Some z) (sym c.behind-self.view_is) in
    let u_at : slice_get d.units.items c.in-Some-next_unit.unit_index ≡ Some c.index_mut.result.now =
    slice_get_read d.units.items c.len.result c.in-Some-next_unit.unit_index c.index_mut.result.now
    (c.len.ensures ∙ d.units.ok.0) c.if-unit_index-len.false c.index_mut.ensures.value in
    let first : slice_get f.function.left 0 ≡ Some c.in-Some-next_unit.unit_index =
    ap (λ (o : Opened). slice_get o.function.left 0) (sym c.open.view_is) ∙ sym c.next_unit.ensures
    ∙ c.in-Some-next_unit.is in
    let w = standing shared m (seen.the_view d) in
    let next = marked_in w d.seats.items c.in-Some-next_unit.unit_index c.phase_visit.new.unit 0
    (listing c.phase_visit.new.out s) c.phase_visit.new.opened in
    turns_seen shared m _ _ PlainEvent.Mark true _ c.self.view_is
    (subst (λ (k : KeptAside). Turns w PlainEvent.Mark true (with_waiting k next)) (sym c.wake.ensures.all)
    (visits (standing shared m (seen.the_view d)) d.seats.items refl firm.room firm.addressed
    c.self.invariant.limits f c.in-Some.is c.in-Some-next_unit.unit_index c.index_mut.result.now s u_at s_at
    c.phase_visit.new.unit c.phase_visit.new.opened c.phase_visit.new.out f.function.left refl first
    visited.Marked (rw c.in-Marked.is at c.phase_visit.ensures)))
