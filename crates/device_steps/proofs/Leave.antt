-- The phase in which the task in a seat's hand leaves takes the turn of its event.
use Rattle.std.proofs.Common.{◌≡◌, ℕ, ◌+◌, ◌*◌, ◌≤◌, Bool, true, false, List, length, Some, refl, sym, ap, ◌∙◌, subst, inl, inr, arith}
use Rattle.std.proofs.lemmas.Bool.{false≢true}
use Rattle.std.specs.Prelude.{slice_get, slice_set, map}
use Rattle.ring_core.specs.declared.log.Ticket.{Ticket}
use Rattle.unit_model.specs.Tasks.{task_of}
use Rattle.unit_model.specs.Steps.{Step, alive}
use Rattle.unit_model.specs.Jobs.{PlainJob, Jobs}
use Rattle.unit_model.specs.Unit.{PlainUnit, after as stepped}
use Rattle.logical_unit.specs.Calls.{CannotLeave}
use Rattle.device_model.specs.Parts.{Hand}
use Rattle.device_model.specs.World.{Seat, PlainWorld, Everywhere, change}
use Rattle.device_model.specs.Transitions.{Transition}
use Rattle.device_model.specs.Events.{Event}
use Rattle.device_model.specs.Changing.{leaving}
use Rattle.device_model.specs.Found.{handed_out}
use Rattle.device_model.specs.Found.{HasHand}
use Rattle.device_model.specs.Standing.{IsToLeave}
use Rattle.device_model.specs.Turns.{Turns}
use Rattle.device_model.proofs.Lists.{same, nothing}
use Rattle.device_model.proofs.Joining.{joins}
use Rattle.phases.specs.Parts.{leaving_unit}
use Rattle.phases.specs.DoingUnit.{DoesUnit, with_more}
use Rattle.phases.specs.Units.{Leaves}
use Rattle.device_steps.specs.Kept.{KeptSeat, seat_of}
use Rattle.device_steps.specs.Inner.Sound.{IsSound}
use Rattle.device_steps.proofs.Setting.{set_change}
use Rattle.device_steps.proofs.Seats.{seat_set, shown, one_there, with_unit_and_seat, moved}

-- a seat with this in its hand, and these jobs
abbrev pub seat_with : Hand → Jobs → KeptSeat
seat_with h out = record { hand = h; jobs = out.jobs; limit = out.limit }

-- the phase keeps the room of the list
pub keeps_limit : (hand : Hand) (u v : PlainUnit) (out more : Jobs) (b : Bool) (h : Hand) → Leaves hand u out b v h more
    → more.limit ≡ out.limit
keeps_limit Hand.Empty u v out more true h c = absurd c
keeps_limit Hand.Empty u v out more false h c = ap (λ (z : Jobs). z.limit) c.2
keeps_limit (Hand.Taken x) u v out more true h c = absurd c
keeps_limit (Hand.Taken x) u v out more false h c = ap (λ (z : Jobs). z.limit) c.2
keeps_limit (Hand.Done x o) u v out more true h c = absurd c
keeps_limit (Hand.Done x o) u v out more false h c = ap (λ (z : Jobs). z.limit) c.2
keeps_limit (Hand.Answered unit_index t) u v out more true h c = ap (λ (z : Jobs). z.limit) (c 0).2
keeps_limit (Hand.Answered unit_index t) u v out more false h c = ap (λ (z : Jobs). z.limit) c.1

-- a unit knows the task that is to leave
known : (w : PlainWorld) (unit_index : ℕ) (t : Ticket) (u : PlainUnit) → IsToLeave w unit_index t → slice_get w.units unit_index ≡ Some u
    → CannotLeave (task_of t (alive u.steps)) t u.steps → ⊥
known w unit_index t u h at cannot =
    let is : u ≡ h.unit = one_there w.units unit_index u h.unit at h.there in
    let there = subst (λ (v : PlainUnit). CannotLeave (task_of t (alive v.steps)) t v.steps) is cannot in
    false≢true (sym (subst (λ o. CannotLeave o t h.unit.steps) h.alive there) ∙ h.ended)

-- a list has room for the jobs that a unit hands out
roomy : (jobs limit units : ℕ) → jobs ≤ 64 * units → limit ≡ 64 * units + 64 → jobs + 64 ≤ limit
roomy jobs limit units few is = omega (arith, few, is)

module _ (w : PlainWorld) (kept : List KeptSeat) (k unit_index : ℕ) (t : Ticket) (u v : PlainUnit) (out more : Jobs) (h : Hand)
    (seats : w.seats ≡ map seat_of kept) (at : slice_get kept k ≡ Some (seat_with (Hand.Answered unit_index t) out))
    (there : slice_get w.units unit_index ≡ Some u) where
  -- the seat, as the device shows it
  abbrev held : HasHand w k (Hand.Answered unit_index t)
  held = (out.jobs, shown w kept k (seat_with (Hand.Answered unit_index t) out) seats at)

  -- the task leaves
  left : (jobs : List PlainJob) → DoesUnit (Transition.Leave k unit_index t jobs) u v → h ≡ Hand.Empty → more ≡ with_more jobs out
      → Turns w (Event.Leave k) true (with_unit_and_seat w unit_index v kept k (seat_with h more))
  left jobs does hs is =
      let d = Transition.Leave k unit_index t jobs in
      let s = seat_with (Hand.Answered unit_index t) out in
      let as_left : seat_of (seat_with h more) ≡ leaving jobs (seat_of s) =
      ap (λ (z : Hand). seat_of (seat_with z more)) hs ∙ ap (λ (z : Jobs). seat_of (seat_with Hand.Empty z)) is in
      let es : map seat_of (slice_set kept k (seat_with h more)) ≡ change (leaving jobs) k w.seats =
      seat_set (leaving jobs) k kept s (seat_with h more) at as_left
      ∙ ap (λ (zs : List Seat). change (leaving jobs) k zs) (sym seats) in
      let eu : slice_set w.units unit_index v ≡ change (stepped (Step.Leave t)) unit_index w.units =
      ap (λ (z : PlainUnit). slice_set w.units unit_index z) does.is
      ∙ set_change (stepped (Step.Leave t)) unit_index w.units u there in
      (d, refl, joins d w held (u, there, does.asks) tt, moved w _ _ _ _ es eu)

  -- it always does
  must_leave : IsSound w → Everywhere (λ i (s : KeptSeat). s.limit ≡ 64 * length w.units + 64) kept
      → Leaves (Hand.Answered unit_index t) u out false v h more → ⊥
  must_leave sound limits (vu, same_out, inl (no_room, hs)) =
      no_room (roomy (length out.jobs) out.limit (length w.units) (sound.room.seats k _ held.1) (limits k _ at))
  must_leave sound limits (vu, same_out, inr (cannot, hs)) =
      known w unit_index t u (sound.works.seats k _ held.1).0 there cannot

-- the phase takes the event's turn
pub leaves : (w : PlainWorld) (kept : List KeptSeat) (k unit_index : ℕ) (hand : Hand) (u v : PlainUnit) (out more : Jobs)
    (h : Hand) (b : Bool) → IsSound w → Everywhere (λ i (s : KeptSeat). s.limit ≡ 64 * length w.units + 64) kept
    → w.seats ≡ map seat_of kept → slice_get kept k ≡ Some (seat_with hand out) → leaving_unit hand ≡ Some unit_index
    → slice_get w.units unit_index ≡ Some u → Leaves hand u out b v h more
    → Turns w (Event.Leave k) b (with_unit_and_seat w unit_index v kept k (seat_with h more))
leaves w kept k unit_index Hand.Empty u v out more h b sound limits seats at unit there c = absurd (nothing unit)
leaves w kept k unit_index (Hand.Done x o) u v out more h b sound limits seats at unit there c = absurd (nothing unit)
leaves w kept k unit_index (Hand.Taken x) u v out more h b sound limits seats at unit there c = absurd (nothing unit)
leaves w kept k unit_index (Hand.Answered p t) u v out more h true sound limits seats at unit there c =
    let is : p ≡ unit_index = same unit in
    let there_p = ap (λ i. slice_get w.units i) is ∙ there in
    let (does, hs, same_out) = c k in
    subst (λ i. Turns w (Event.Leave k) true (with_unit_and_seat w i v kept k (seat_with h more))) is
    (left w kept k p t u v out more h seats at there_p (handed_out u (Step.Leave t)) does hs same_out)
leaves w kept k unit_index (Hand.Answered p t) u v out more h false sound limits seats at unit there c =
    let there_p = ap (λ i. slice_get w.units i) (same unit) ∙ there in
    absurd (must_leave w kept k p t u v out more h seats at there_p sound limits c)
