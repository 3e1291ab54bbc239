-- What the entering of a request at a unit is, as a transition.
use Rattle.std.proofs.Common.{◌≡◌, List, [], ◌∷◌, refl, ap, sym}
use Rattle.std.proofs.lemmas.List.{append-nil}
use Rattle.unit_model.specs.Jobs.{PlainJob, Jobs}
use Rattle.unit_model.specs.Unit.{PlainUnit}
use Rattle.logical_unit.specs.Calls.{Enters}
use Rattle.logical_unit.specs.declared.outcomes.Entered.TheVariants as entered
use Rattle.unit_model.specs.Endings.{Ending}
use Rattle.device_model.specs.Parts.{Outcome, Slot}
use Rattle.device_model.specs.Transitions.{Transition}
use Rattle.phases.specs.DoingUnit.{with_more}
use Rattle.phases.specs.Units.{EntersAs}

-- a list with no more jobs is the list
pub with_none : (out : Jobs) → out ≡ with_more [] out
with_none out = ap (λ (xs : List PlainJob). record out { jobs = xs }) (sym (append-nil out.jobs))

-- a list with one more job
pub with_one : (out : Jobs) (x y : PlainJob) → y ≡ x → with_more (y ∷ []) out ≡ with_more (x ∷ []) out
with_one out x y is = ap (λ (j : PlainJob). with_more (j ∷ []) out) is

module _ (x : PlainJob) (u v : PlainUnit) (out : Jobs) where
  -- its job is handed out
  pub runs : (job : PlainJob) → Enters u x (entered.Run job) v
      → EntersAs x u out v Slot.Empty (with_more (job ∷ []) out)
  runs job (is, named, free, step) =
      (Transition.Run x, refl, record { asks = (named, step.may, free); is = step.is }, refl, with_one out x job is)

  -- its job is kept
  pub parks : Enters u x entered.Parked v → EntersAs x u out v Slot.Empty out
  parks (named, blocked, may, is) =
      (Transition.Park x, refl, record { asks = (named, may, blocked); is = is }, refl, with_none out)

  -- the unit is full
  pub overflows : (job : PlainJob) → Enters u x (entered.Full job) v
      → EntersAs x u out v (Slot.Direct job.chain (Outcome.Ended Ending.Full)) out
  overflows job (is, named, step) = (
    Transition.EnterFull x,
    refl,
    record { asks = (named, step.may); is = step.is },
    ap (λ (j : PlainJob). Slot.Direct j.chain (Outcome.Ended Ending.Full)) is,
    with_none out,
  )

  -- the unit was refused memory
  pub sheds : (job : PlainJob) → Enters u x (entered.Busy job) v
      → EntersAs x u out v (Slot.Direct job.chain (Outcome.Ended Ending.Busy)) out
  sheds job (is, named, fresh, same) = (
    Transition.EnterBusy x,
    refl,
    record { asks = (named, fresh); is = same },
    ap (λ (j : PlainJob). Slot.Direct j.chain (Outcome.Ended Ending.Busy)) is,
    with_none out,
  )

  -- the unit isn't the one that is named, or it saw a later ticket
  pub stalls : (job : PlainJob) → Enters u x (entered.Stale job) v
      → EntersAs x u out v (Slot.Direct job.chain (Outcome.Ended Ending.Lost)) out
  stalls job (is, late, same) = (
    Transition.EnterStale x,
    refl,
    record { asks = late; is = same },
    ap (λ (j : PlainJob). Slot.Direct j.chain (Outcome.Ended Ending.Lost)) is,
    with_none out,
  )
