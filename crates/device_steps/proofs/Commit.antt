-- The phase that commits the job in a seat's hand takes the turn of its event.
use Rattle.std.proofs.Common.{◌≡◌, ℕ, Bool, true, false, List, [], ◌∷◌, ◌++◌, Some, refl, sym, ap, ◌∙◌, subst, inl, inr}
use Rattle.std.proofs.lemmas.Bool.{false≢true}
use Rattle.unit_model.specs.declared.reason.Reason.{Reason}
use Rattle.command_model.specs.PlainReply.{PlainReply}
use Rattle.std.specs.Prelude.{slice_get, slice_set, map, ◌||◌, ◌⊎◌}
use Rattle.unit_model.specs.Endings.{Ending}
use Rattle.unit_model.specs.Tasks.{task_of}
use Rattle.unit_model.specs.Steps.{Step, alive, done}
use Rattle.unit_model.specs.Marks.{marked}
use Rattle.unit_model.specs.Enabling.{enabled}
use Rattle.unit_model.specs.Jobs.{PlainJob, Jobs}
use Rattle.unit_model.specs.Unit.{PlainUnit, IsWithheld, after as stepped}
use Rattle.unit_model.specs.Asking.{CannotCommit, IsNotWithheld}
use Rattle.device_model.specs.Parts.{Outcome, Hand}
use Rattle.device_model.specs.World.{Seat, PlainWorld, change}
use Rattle.device_model.specs.Transitions.{Transition, event_of}
use Rattle.device_model.specs.Events.{Event}
use Rattle.device_model.specs.After.{after}
use Rattle.device_model.specs.Changing.{with_hand}
use Rattle.device_model.specs.Happens.{Happens}
use Rattle.device_model.specs.Found.{HasHand}
use Rattle.device_model.specs.Standing.{IsToCommit}
use Rattle.device_model.specs.Turns.{Turns}
use Rattle.device_model.proofs.Lists.{same, nothing}
use Rattle.device_model.proofs.Joining.{joins}
use Rattle.phases.specs.Parts.{committing_unit}
use Rattle.phases.specs.DoingUnit.{DoesUnit}
use Rattle.phases.specs.Units.{IsCommitting, ending_after, Commits}
use Rattle.phases.specs.Inner.Units.{PutsAside, CommitsOrDefers}
use Rattle.device_steps.specs.Kept.{KeptSeat, seat_of}
use Rattle.device_steps.specs.Inner.Sound.{IsSound}
use Rattle.device_steps.proofs.Setting.{set_change, set_same}
use Rattle.device_steps.proofs.Seats.{seat_set, shown, with_unit_and_seat, moved}

-- the device with other jobs that wait for pages
abbrev pub with_aside : List PlainJob → PlainWorld → PlainWorld
with_aside aside w = record w { aside = aside }

-- one of two tests that hold isn't neither
neither : (a b : Bool) → (a || b) ≡ true → b ≡ false → a ≡ false → ⊥
neither true b some right left = false≢true (sym left)
neither false true some right left = false≢true (sym right)
neither false false some right left = false≢true some

-- a unit knows the task of a job that is to be committed and isn't done
known : (x : PlainJob) (steps : List Step) → (enabled x.entry steps || marked x.entry.ticket steps) ≡ true
    → done x.entry.ticket steps ≡ false → CannotCommit (Some x.entry) x steps → ⊥
known x steps out undone (inl h) = h refl
known x steps out undone (inr (inl over)) = false≢true (sym undone ∙ over)
known x steps out undone (inr (inr (unmarked, closed))) =
    neither (enabled x.entry steps) (marked x.entry.ticket steps) out unmarked closed

-- or its reply is withheld there
known_so : (x : PlainJob) (u : PlainUnit) → task_of x.entry.ticket (alive u.steps) ≡ Some x.entry
    → (enabled x.entry u.steps || marked x.entry.ticket u.steps) ≡ true
    → (done x.entry.ticket u.steps ≡ false) ⊎ ((r : PlainReply) × IsWithheld u x.entry.ticket x.entry r)
    → CannotCommit (Some x.entry) x u.steps → IsNotWithheld x u → ⊥
known_so x u there out (inl undone) cannot none = known x u.steps out undone cannot
known_so x u there out (inr (r, withheld)) cannot none =
    none x.entry r (record { is_there = there; as_asked = refl }) withheld

-- so no commit is lost
not_lost : (w : PlainWorld) (x : PlainJob) (u : PlainUnit) → IsToCommit w x → slice_get w.units x.unit ≡ Some u
    → CannotCommit (task_of x.entry.ticket (alive u.steps)) x u.steps → IsNotWithheld x u → ⊥
not_lost w x u h at cannot none =
    let is : u ≡ h.unit = same (sym at ∙ h.there) in
    let there = subst (λ (v : PlainUnit). CannotCommit (task_of x.entry.ticket (alive v.steps)) x v.steps) is cannot in
    known_so x h.unit h.alive h.handed_out h.undone (subst (λ o. CannotCommit o x h.unit.steps) h.alive there)
    (subst (λ (v : PlainUnit). IsNotWithheld x v) is none)

-- a statement of a seat and a job is one of those that equal them
along : {j k : ℕ} {y x : PlainJob} (P : ℕ → PlainJob → Type 0) → j ≡ k → y ≡ x → P j y → P k x
along {j} {k} {y} {x} P ej ey p = subst (λ i. P i x) ej (subst (λ z. P j z) ey p)

module _ (w : PlainWorld) (kept : List KeptSeat) (k : ℕ) (x : PlainJob) (jobs : List PlainJob) (limit : ℕ) (u v : PlainUnit)
    (h : Hand) (seats : w.seats ≡ map seat_of kept)
    (at : slice_get kept k ≡ Some (record { hand = Hand.Taken x; jobs = jobs; limit = limit }))
    (there : slice_get w.units x.unit ≡ Some u) where
  -- the seat, as the device shows it
  held : HasHand w k (Hand.Taken x)
  held = (jobs, shown w kept k _ seats at)

  abbrev Done : Type 0
  Done = Turns w (Event.Commit k) true (with_unit_and_seat w x.unit v kept k (record { hand = h; jobs = jobs; limit = limit }))

  -- a transition of the commit that leaves these units, and this in the hand
  step : (d : Transition) (units : List PlainUnit) (hand : Hand) → event_of d ≡ Event.Commit k → Happens d w
      → slice_set w.units x.unit v ≡ units → h ≡ hand
      → after d w ≡ record w { seats = change (with_hand hand) k w.seats; units = units } → Done
  step d units hand of happens us hs is =
      let s : KeptSeat = record { hand = Hand.Taken x; jobs = jobs; limit = limit } in
      let t : KeptSeat = record { hand = h; jobs = jobs; limit = limit } in
      let set : map seat_of (slice_set kept k t) ≡ change (with_hand hand) k w.seats =
      seat_set (with_hand hand) k kept s t at (ap (λ (z : Hand). record { hand = z; out = jobs }) hs)
      ∙ ap (λ (zs : List Seat). change (with_hand hand) k zs) (sym seats) in
      (d, of, happens, moved w _ _ _ _ set us ∙ sym is)

  -- the unit with its step is the change of it
  stepped_as : (s : Step) → v ≡ stepped s u → slice_set w.units x.unit v ≡ change (stepped s) x.unit w.units
  stepped_as s is =
      ap (λ (z : PlainUnit). slice_set w.units x.unit z) is ∙ set_change (stepped s) x.unit w.units u there

  -- the unit that nothing was done to
  unit_left : v ≡ u → slice_set w.units x.unit v ≡ w.units
  unit_left is = ap (λ (z : PlainUnit). slice_set w.units x.unit z) is ∙ set_same x.unit w.units u there

  runs : (r : PlainReply) → DoesUnit (Transition.Commit k x r) u v → h ≡ Hand.Done x (Outcome.Ended (Ending.Replied r)) → Done
  runs r does is =
      let d = Transition.Commit k x r in
      step d _ _ refl (joins d w held (u, there, does.asks) tt)
      (stepped_as (Step.Commit x.entry.ticket r) does.is) is refl

  wants : DoesUnit (Transition.CommitBusy k x) u v → h ≡ Hand.Done x (Outcome.Ended Ending.Busy) → Done
  wants does is =
      let d = Transition.CommitBusy k x in
      step d _ _ refl (joins d w held (u, there, does.asks) tt)
      (stepped_as (Step.Busy x.entry.ticket) does.is) is refl

  aborts : (why : Reason) → DoesUnit (Transition.CommitAborted k x why) u v → h ≡ Hand.Done x (Outcome.Ended (Ending.Aborted why)) → Done
  aborts why does is =
      let d = Transition.CommitAborted k x why in
      step d _ _ refl (joins d w held (u, there, does.asks) tt) (unit_left does.is) is refl

  tells : (r : PlainReply) → DoesUnit (Transition.Conclude k x r) u v → h ≡ Hand.Done x (Outcome.Ended (Ending.Replied r)) → Done
  tells r does is =
      let d = Transition.Conclude k x r in
      step d _ _ refl (joins d w held (u, there, does.asks) tt) (unit_left does.is) is refl

  abbrev Aside : List PlainJob → Type 0
  Aside aside =
      Turns w (Event.Commit k) true
      (with_aside aside (with_unit_and_seat w x.unit v kept k (record { hand = h; jobs = jobs; limit = limit })))

  -- a transition of the commit that leaves these units, and has the job wait behind those that do
  waits : (aside : List PlainJob) (d : Transition) (units : List PlainUnit) → event_of d ≡ Event.Commit k → Happens d w
      → slice_set w.units x.unit v ≡ units → h ≡ Hand.Empty → aside ≡ w.aside ++ x ∷ []
      → after d w
      ≡ record w { seats = change (with_hand Hand.Empty) k w.seats; aside = w.aside ++ x ∷ []; units = units } → Aside aside
  waits aside d units of happens us hs is done =
      let s : KeptSeat = record { hand = Hand.Taken x; jobs = jobs; limit = limit } in
      let t : KeptSeat = record { hand = h; jobs = jobs; limit = limit } in
      let set : map seat_of (slice_set kept k t) ≡ change (with_hand Hand.Empty) k w.seats =
      seat_set (with_hand Hand.Empty) k kept s t at (ap (λ (z : Hand). record { hand = z; out = jobs }) hs)
      ∙ ap (λ (zs : List Seat). change (with_hand Hand.Empty) k zs) (sym seats) in (
        d,
        of,
        happens,
        ap (λ (l : List PlainJob). with_aside l (with_unit_and_seat w x.unit v kept k t)) is
            ∙ ap (λ (z : PlainWorld). with_aside (w.aside ++ x ∷ []) z) (moved w _ _ _ _ set us) ∙ sym done,
      )

  -- its command waits, or its reply
  defers : (aside : List PlainJob) → PutsAside k x u v → h ≡ Hand.Empty → aside ≡ w.aside ++ x ∷ [] → Aside aside
  defers aside (inl does) hs is =
      let d = Transition.Defer k x in
      waits aside d _ refl (joins d w held (u, there, does.asks) tt) (unit_left does.is) hs is refl
  defers aside (inr (r, does)) hs is =
      let d = Transition.Withhold k x r in
      waits aside d _ refl (joins d w held (u, there, does.asks) tt) (stepped_as (Step.Commit x.entry.ticket r) does.is) hs is
      refl

  -- whichever transition of the commit is done
  done_as : (d : Transition) → IsSound w → IsCommitting k x d → DoesUnit d u v → h ≡ Hand.Done x (Outcome.Ended (ending_after d))
      → Done
  done_as (Transition.Commit j y r) sound (ej, ey) does is =
      runs r (along (λ i z. DoesUnit (Transition.Commit i z r) u v) ej ey does) is
  done_as (Transition.CommitBusy j y) sound (ej, ey) does is =
      wants (along (λ i z. DoesUnit (Transition.CommitBusy i z) u v) ej ey does) is
  done_as (Transition.CommitAborted j y why) sound (ej, ey) does is =
      aborts why (along (λ i z. DoesUnit (Transition.CommitAborted i z why) u v) ej ey does) is
  done_as (Transition.CommitUnknown j y) sound (ej, ey) does is =
      let lost = along (λ i z. DoesUnit (Transition.CommitUnknown i z) u v) ej ey does in
      absurd (not_lost w x u (sound.works.seats k _ held.1).0 there lost.asks.0 lost.asks.1)
  done_as (Transition.Conclude j y r) sound (ej, ey) does is =
      tells r (along (λ i z. DoesUnit (Transition.Conclude i z r) u v) ej ey does) is
  done_as d sound is_it does is = absurd is_it

-- the phase takes the event's turn
pub commits : (w : PlainWorld) (kept : List KeptSeat) (k unit_index : ℕ) (hand : Hand) (jobs : List PlainJob) (limit : ℕ)
    (u v : PlainUnit) (h : Hand) → IsSound w → w.seats ≡ map seat_of kept
    → slice_get kept k ≡ Some (record { hand = hand; jobs = jobs; limit = limit }) → committing_unit hand ≡ Some unit_index
    → slice_get w.units unit_index ≡ Some u → Commits hand u true v h
    → Turns w (Event.Commit k) true (with_unit_and_seat w unit_index v kept k (record { hand = h; jobs = jobs; limit = limit }))
commits w kept k unit_index Hand.Empty jobs limit u v h sound seats at unit there c = absurd (nothing unit)
commits w kept k unit_index (Hand.Done x o) jobs limit u v h sound seats at unit there c = absurd (nothing unit)
commits w kept k unit_index (Hand.Answered p t) jobs limit u v h sound seats at unit there c = absurd (nothing unit)
commits w kept k unit_index (Hand.Taken x) jobs limit u v h sound seats at unit there c =
    let is : x.unit ≡ unit_index = same unit in
    let (d, of, does, ends) = c k in
    let done = done_as w kept k x jobs limit u v h seats at
    (ap (λ i. slice_get w.units i) is ∙ there) d sound of does ends in
    subst (λ i. Turns w (Event.Commit k) true
    (with_unit_and_seat w i v kept k (record { hand = h; jobs = jobs; limit = limit }))) is done

-- or puts the job aside
pub commits_or_defers : (w : PlainWorld) (kept : List KeptSeat) (k unit_index : ℕ) (hand : Hand) (jobs : List PlainJob) (limit : ℕ)
    (u v : PlainUnit) (h : Hand) (places : ℕ) (aside : Jobs) (b : Bool) → IsSound w → w.seats ≡ map seat_of kept
    → slice_get kept k ≡ Some (record { hand = hand; jobs = jobs; limit = limit }) → committing_unit hand ≡ Some unit_index
    → slice_get w.units unit_index ≡ Some u → CommitsOrDefers hand u (record { jobs = w.aside; limit = places }) b v h aside
    → Turns w (Event.Commit k) b
    (with_aside aside.jobs (with_unit_and_seat w unit_index v kept k (record { hand = h; jobs = jobs; limit = limit })))
commits_or_defers w kept k unit_index Hand.Empty jobs limit u v h places aside b sound seats at unit there c = absurd (nothing unit)
commits_or_defers w kept k unit_index (Hand.Done x o) jobs limit u v h places aside b sound seats at unit there c = absurd (nothing unit)
commits_or_defers w kept k unit_index (Hand.Answered p t) jobs limit u v h places aside b sound seats at unit there c =
    absurd (nothing unit)
commits_or_defers w kept k unit_index (Hand.Taken x) jobs limit u v h places aside false sound seats at unit there c = absurd c
commits_or_defers w kept k unit_index (Hand.Taken x) jobs limit u v h places aside true sound seats at unit there (inl (c, same_jobs)) =
    subst (λ (j : Jobs). Turns w (Event.Commit k) true
    (with_aside j.jobs (with_unit_and_seat w unit_index v kept k (record { hand = h; jobs = jobs; limit = limit })))) (sym same_jobs)
    (commits w kept k unit_index (Hand.Taken x) jobs limit u v h sound seats at unit there c)
commits_or_defers w kept k unit_index (Hand.Taken x) jobs limit u v h places aside true sound seats at unit there (inr c) =
    let is : x.unit ≡ unit_index = same unit in
    let (does, free, more) = c k in
    subst (λ i. Turns w (Event.Commit k) true
    (with_aside aside.jobs (with_unit_and_seat w i v kept k (record { hand = h; jobs = jobs; limit = limit })))) is
    (defers w kept k x jobs limit u v h seats at (ap (λ i. slice_get w.units i) is ∙ there) aside.jobs does free
    (ap (λ (j : Jobs). j.jobs) more))
