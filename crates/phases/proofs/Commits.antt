-- What a commit at a unit is, as a transition.
use Rattle.std.proofs.Common.{ℕ, ◌≡◌, true, false, Option, Some, None, refl, ap, sym, ◌∙◌, subst, inl, inr}
use Rattle.std.specs.Prelude.{◌⊎◌, is_some}
use Rattle.unit_model.specs.Endings.{Ending}
use Rattle.unit_model.specs.Jobs.{PlainJob}
use Rattle.unit_model.specs.Asking.{Asked}
use Rattle.unit_model.specs.Unit.{PlainUnit}
use Rattle.logical_unit.specs.Calls.{Commits, Concludes}
use Rattle.logical_unit.specs.Endings.{ending_of, ending_of_reply}
use Rattle.logical_unit.specs.declared.outcomes.Outcome as outcome_type
use Rattle.logical_unit.specs.declared.outcomes.Outcome.TheVariants as outcome
use Rattle.device_model.specs.Parts.{Outcome, Hand}
use Rattle.device_model.specs.Transitions.{Transition}
use Rattle.device_model.specs.Found.{MayYield}
use Rattle.phases.specs.DoingUnit.{DoesUnit}
use Rattle.phases.specs.Outcomes.{PlainJobInHand}
use Rattle.phases.specs.Parts.{hand_with}
use Rattle.phases.specs.Units.{IsCommitting, ending_after}
use Rattle.phases.specs.Units as units

-- a transition of the job's commit by a seat, with what it does to the unit and how the job ends
abbrev pub CommitsAs : ℕ → PlainJob → PlainUnit → Ending → PlainUnit → Type 0
CommitsAs k x u ending v = (d : Transition) × IsCommitting k x d × DoesUnit d u v × (ending ≡ ending_after d)

-- a commit is one of its transitions, whatever the seat
pub committed : (k : ℕ) (x : PlainJob) (u v : PlainUnit) (what : outcome_type.Outcome)
    → Commits u x what v → CommitsAs k x u (ending_of what) v
committed k x u v (outcome.Reply receipt) (e, of, ready, r, replies, is, step, at_once) =
    let told = ap (λ r. ending_of_reply r.reply) is in
    let d = Transition.Commit k x r in
    (d, (refl, refl), record { asks = (e, ready, replies, at_once); is = step.is }, told)
committed k x u v (outcome.Aborted why) (e, of, mark, same) =
    (Transition.CommitAborted k x why, (refl, refl), record { asks = (ap is_some of.is_there, mark); is = same }, refl)
committed k x u v outcome.Busy (e, of, want, step) =
    let asked = ap (λ (a : Asked). a.command) of.as_asked in
    let wants = subst (λ command. MayYield u command) asked want in
    (Transition.CommitBusy k x, (refl, refl), record { asks = (step.may, wants); is = step.is }, refl)
committed k x u v outcome.Unknown (cannot, same, none) =
    (Transition.CommitUnknown k x, (refl, refl), record { asks = (cannot, none); is = same }, refl)

-- so is the telling of a reply that was withheld
concluded : (k : ℕ) (x : PlainJob) (u v : PlainUnit) (what : outcome_type.Outcome)
    → Concludes u x what v → CommitsAs k x u (ending_of what) v
concluded k x u v (outcome.Reply receipt) (e, of, r, withheld, through, told, same) =
    (Transition.Conclude k x r, (refl, refl), record { asks = (e, withheld, through); is = same }, ap ending_of_reply told)
concluded k x u v (outcome.Aborted why) c = absurd c
concluded k x u v outcome.Busy c = absurd c
concluded k x u v outcome.Unknown c = absurd c

-- what ends a job at its unit
abbrev pub Ends : PlainUnit → PlainJob → outcome_type.Outcome → PlainUnit → Type 0
Ends u x what v = Commits u x what v ⊎ Concludes u x what v

ended : (k : ℕ) (x : PlainJob) (u v : PlainUnit) (what : outcome_type.Outcome) → Ends u x what v → CommitsAs k x u (ending_of what) v
ended k x u v what (inl c) = committed k x u v what c
ended k x u v what (inr c) = concluded k x u v what c

-- a job whose commit isn't over is to be committed
still_to_commit : (x : PlainJob) (before : Option outcome_type.Outcome) → is_some before ≡ false
    → hand_with x before ≡ Hand.Taken x
still_to_commit x None is = refl
still_to_commit x (Some o) is = absurd (cc)

-- the hand whose job was committed then has what came of it
pub taken : (x : PlainJob) (before : Option outcome_type.Outcome) (u v : PlainUnit) (what : outcome_type.Outcome)
    (made : PlainJobInHand) → is_some before ≡ false → Ends u x what v → made ≡ record { job = x; outcome = Some what }
    → units.Commits (hand_with x before) u true v (hand_with made.job made.outcome)
taken x before u v what made not_over ran same =
    subst (λ (g : Hand). units.Commits g u true v (hand_with made.job made.outcome)) (sym (still_to_commit x before not_over))
    (λ k.
    let (d, of, does, ends) = ended k x u v what ran in (
      d,
      of,
      does,
      ap (λ (y : PlainJobInHand). hand_with y.job y.outcome) same ∙ ap (λ (e : Ending). Hand.Done x (Outcome.Ended e)) ends,
    ))
