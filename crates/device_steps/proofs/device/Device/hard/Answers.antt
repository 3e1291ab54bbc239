use Rattle.std.proofs.Common.{◌≡◌, ◌<◌, ℕ, Bool, true, false, [], length, Some, Result, Ok, Err, refl, sym, ap, subst, ◌∙◌}
use Rattle.std.specs.Prelude.{slice_get, slice_set}
use Rattle.std.proofs.lemmas.Option.{slice_get_read}
use Rattle.phases.specs.declared.resetting.ResetFault.{ResetFault}
use Rattle.phases.specs.declared.resetting.ResetFault.TheVariants as fault
use Rattle.device_model.specs.Events.{Event}
use Rattle.device_steps.specs.Inner.Steps.{TurnsOrWants}
use Rattle.device_steps.specs.Apart.{standing}
use Rattle.device_steps.specs.Aside.{KeptAside}
use Rattle.device_steps.specs.Kept.{KeptSeat}
use Rattle.device_steps.specs.Inner.Kept.{HasLists}
use Rattle.device_steps.specs.contracts.device.Device as seen
use Rattle.device_steps.specs.contracts.seat.Seat as seat
use Rattle.device_steps.proofs.Setting.{list_of, listing, unit_kept, sound_seen}
use Rattle.device_steps.proofs.Resetting.{reset_limit, reset_in, resets, has_operator}
use Rattle.device_steps.proofs.Resuming.{with_waiting}
use Rattle.device_steps.proofs.device.Device.hard.Goals as goal

pub invariant_of-self : goal.invariant_of-self
invariant_of-self c =
    let d = c.self.inside in
    let s = seat.the_view c.behind-self.inside in
    let seated = rw (← c.self.view_is) at c.requires.seated in
    let within : d.workers < length d.seats.items =
    has_operator (standing false [] (seen.the_view d)) d.seats.items refl seated in
    let s_at : slice_get d.seats.items d.workers ≡ Some s =
    slice_get_read d.seats.items (length d.seats.items) d.workers c.index_mut-2.result.now refl within
    c.index_mut-2.ensures.value ∙ ap (λ (z : KeptSeat). Some z) (sym c.behind-self.view_is) in
    let out = c.phase_hard.new.out in
    unit_kept d.units.items d.seats.items c.args.unit_index c.phase_hard.new.unit d.workers s
    (listing out s) c.self.invariant s_at
    (reset_limit d.inventory c.args.unit_index c.index_mut.result.now c.phase_hard.new.unit (list_of s) out d.waiting c.phase_hard.new.waiting
    c.phase_hard.result c.phase_hard.ensures)

pub invariant_of-self-in-Err-WrongUnit : goal.invariant_of-self-in-Err-WrongUnit
invariant_of-self-in-Err-WrongUnit c =
    let d = c.self.inside in
    let s = seat.the_view c.behind-self.inside in
    let seated = rw (← c.self.view_is) at c.requires.seated in
    let within : d.workers < length d.seats.items =
    has_operator (standing false [] (seen.the_view d)) d.seats.items refl seated in
    let s_at : slice_get d.seats.items d.workers ≡ Some s =
    slice_get_read d.seats.items (length d.seats.items) d.workers c.index_mut-2.result.now refl within
    c.index_mut-2.ensures.value ∙ ap (λ (z : KeptSeat). Some z) (sym c.behind-self.view_is) in
    let out = c.phase_hard.new.out in
    unit_kept d.units.items d.seats.items c.args.unit_index c.phase_hard.new.unit d.workers s
    (listing out s) c.self.invariant s_at
    (reset_limit d.inventory c.args.unit_index c.index_mut.result.now c.phase_hard.new.unit (list_of s) out d.waiting c.phase_hard.new.waiting
    c.phase_hard.result c.phase_hard.ensures)

pub invariant_of-self-in-Err-NoMemory : goal.invariant_of-self-in-Err-NoMemory
invariant_of-self-in-Err-NoMemory c =
    let d = c.self.inside in
    let s = seat.the_view c.behind-self.inside in
    let seated = rw (← c.self.view_is) at c.requires.seated in
    let within : d.workers < length d.seats.items =
    has_operator (standing false [] (seen.the_view d)) d.seats.items refl seated in
    let s_at : slice_get d.seats.items d.workers ≡ Some s =
    slice_get_read d.seats.items (length d.seats.items) d.workers c.index_mut-2.result.now refl within
    c.index_mut-2.ensures.value ∙ ap (λ (z : KeptSeat). Some z) (sym c.behind-self.view_is) in
    let out = c.phase_hard.new.out in
    unit_kept d.units.items d.seats.items c.args.unit_index c.phase_hard.new.unit d.workers s
    (listing out s) c.self.invariant s_at
    (reset_limit d.inventory c.args.unit_index c.index_mut.result.now c.phase_hard.new.unit (list_of s) out d.waiting c.phase_hard.new.waiting
    c.phase_hard.result c.phase_hard.ensures)

pub invariant_of-self-2 : goal.invariant_of-self-2
invariant_of-self-2 c =
    let d = c.self.inside in
    let s = seat.the_view c.behind-self.inside in
    let seated = rw (← c.self.view_is) at c.requires.seated in
    let within : d.workers < length d.seats.items =
    has_operator (standing false [] (seen.the_view d)) d.seats.items refl seated in
    let s_at : slice_get d.seats.items d.workers ≡ Some s =
    slice_get_read d.seats.items (length d.seats.items) d.workers c.index_mut-2.result.now refl within
    c.index_mut-2.ensures.value ∙ ap (λ (z : KeptSeat). Some z) (sym c.behind-self.view_is) in
    let out = c.phase_hard.new.out in
    subst (λ (places : ℕ). HasLists (slice_set d.units.items c.args.unit_index c.phase_hard.new.unit)
    (slice_set d.seats.items d.workers (listing out s)) places d.port.limit)
    (sym (ap (λ (k : KeptAside). k.limit) c.wake.ensures.all))
    (unit_kept d.units.items d.seats.items c.args.unit_index c.phase_hard.new.unit d.workers s
    (listing out s) c.self.invariant s_at
    (reset_limit d.inventory c.args.unit_index c.index_mut.result.now c.phase_hard.new.unit (list_of s) out d.waiting c.phase_hard.new.waiting
    c.phase_hard.result c.phase_hard.ensures))

pub returns-in-Ok-false : goal.returns-in-Ok-false
returns-in-Ok-false c shared m sound few =
    let d = c.self.inside in
    let s = seat.the_view c.behind-self.inside in
    let firm = sound_seen shared m _ _ c.self.view_is sound in
    let within : d.workers < length d.seats.items =
    has_operator (standing shared m (seen.the_view d)) d.seats.items refl firm.seated in
    let s_at : slice_get d.seats.items d.workers ≡ Some s =
    slice_get_read d.seats.items (length d.seats.items) d.workers c.index_mut-2.result.now refl within
    c.index_mut-2.ensures.value ∙ ap (λ (z : KeptSeat). Some z) (sym c.behind-self.view_is) in
    let u_at : slice_get d.units.items c.args.unit_index ≡ Some c.index_mut.result.now =
    slice_get_read d.units.items c.len.result c.args.unit_index c.index_mut.result.now
    (c.len.ensures ∙ d.units.ok.0) c.if-at-len.false c.index_mut.ensures.value in
    let w = standing shared m (seen.the_view d) in
    rw (← c.self.view_is)
    (resets w d.seats.items refl firm.room firm.addressed (rw (← c.self.view_is) at few) c.self.invariant.limits c.args.unit_index
    c.index_mut.result.now c.phase_hard.new.unit s c.phase_hard.new.out c.phase_hard.new.waiting u_at s_at
    (Ok false) (rw c.in-Ok-false.field-0-test at c.in-Ok-false.ensures))

pub returns-in-Err-WrongUnit : goal.returns-in-Err-WrongUnit
returns-in-Err-WrongUnit c shared m sound few =
    let d = c.self.inside in
    let s = seat.the_view c.behind-self.inside in
    let firm = sound_seen shared m _ _ c.self.view_is sound in
    let within : d.workers < length d.seats.items =
    has_operator (standing shared m (seen.the_view d)) d.seats.items refl firm.seated in
    let s_at : slice_get d.seats.items d.workers ≡ Some s =
    slice_get_read d.seats.items (length d.seats.items) d.workers c.index_mut-2.result.now refl within
    c.index_mut-2.ensures.value ∙ ap (λ (z : KeptSeat). Some z) (sym c.behind-self.view_is) in
    let u_at : slice_get d.units.items c.args.unit_index ≡ Some c.index_mut.result.now =
    slice_get_read d.units.items c.len.result c.args.unit_index c.index_mut.result.now
    (c.len.ensures ∙ d.units.ok.0) c.if-at-len.false c.index_mut.ensures.value in
    let w = standing shared m (seen.the_view d) in
    rw (← c.self.view_is)
    (resets w d.seats.items refl firm.room firm.addressed (rw (← c.self.view_is) at few) c.self.invariant.limits c.args.unit_index
    c.index_mut.result.now c.phase_hard.new.unit s c.phase_hard.new.out c.phase_hard.new.waiting u_at s_at
    (Err fault.WrongUnit) (rw c.in-Err-WrongUnit.field-0-is at c.in-Err-WrongUnit.ensures))

pub returns-in-Err-NoMemory : goal.returns-in-Err-NoMemory
returns-in-Err-NoMemory c shared m sound few =
    let d = c.self.inside in
    let s = seat.the_view c.behind-self.inside in
    let firm = sound_seen shared m _ _ c.self.view_is sound in
    let within : d.workers < length d.seats.items =
    has_operator (standing shared m (seen.the_view d)) d.seats.items refl firm.seated in
    let s_at : slice_get d.seats.items d.workers ≡ Some s =
    slice_get_read d.seats.items (length d.seats.items) d.workers c.index_mut-2.result.now refl within
    c.index_mut-2.ensures.value ∙ ap (λ (z : KeptSeat). Some z) (sym c.behind-self.view_is) in
    let u_at : slice_get d.units.items c.args.unit_index ≡ Some c.index_mut.result.now =
    slice_get_read d.units.items c.len.result c.args.unit_index c.index_mut.result.now
    (c.len.ensures ∙ d.units.ok.0) c.if-at-len.false c.index_mut.ensures.value in
    let w = standing shared m (seen.the_view d) in
    rw (← c.self.view_is)
    (resets w d.seats.items refl firm.room firm.addressed (rw (← c.self.view_is) at few) c.self.invariant.limits c.args.unit_index
    c.index_mut.result.now c.phase_hard.new.unit s c.phase_hard.new.out c.phase_hard.new.waiting u_at s_at
    (Err fault.NoMemory) (rw c.in-Err-NoMemory.field-0-is at c.in-Err-NoMemory.ensures))

pub returns : goal.returns
returns c shared m sound few =
    let d = c.self.inside in
    let s = seat.the_view c.behind-self.inside in
    let firm = sound_seen shared m _ _ c.self.view_is sound in
    let within : d.workers < length d.seats.items =
    has_operator (standing shared m (seen.the_view d)) d.seats.items refl firm.seated in
    let s_at : slice_get d.seats.items d.workers ≡ Some s =
    slice_get_read d.seats.items (length d.seats.items) d.workers c.index_mut-2.result.now refl within
    c.index_mut-2.ensures.value ∙ ap (λ (z : KeptSeat). Some z) (sym c.behind-self.view_is) in
    let u_at : slice_get d.units.items c.args.unit_index ≡ Some c.index_mut.result.now =
    slice_get_read d.units.items c.len.result c.args.unit_index c.index_mut.result.now
    (c.len.ensures ∙ d.units.ok.0) c.if-at-len.false c.index_mut.ensures.value in
    let w = standing shared m (seen.the_view d) in
    let next = reset_in w d.seats.items c.args.unit_index c.phase_hard.new.unit d.workers (listing c.phase_hard.new.out s)
    c.phase_hard.new.waiting in
    rw (← c.self.view_is)
    (subst (λ (k : KeptAside). TurnsOrWants w (Event.Hard c.args.unit_index) (Ok true) (with_waiting k next))
    (sym c.wake.ensures.all)
    (resets w d.seats.items refl firm.room firm.addressed (rw (← c.self.view_is) at few) c.self.invariant.limits c.args.unit_index
    c.index_mut.result.now c.phase_hard.new.unit s c.phase_hard.new.out c.phase_hard.new.waiting u_at s_at
    (Ok true) (rw c.in-Ok-true.field-0-test at c.in-Ok-true.ensures)))
