-- A settling is a run.
use Rattle.std.proofs.Common.{◌≡◌, ℕ, Bool, List, [], ◌∷◌, ◌++◌, map, length, refl, ap, arith}
use Rattle.device_model.specs.World.{PlainWorld}
use Rattle.device_model.specs.Transitions.{Transition}
use Rattle.device_model.specs.Changing.{bit}
use Rattle.device_model.specs.Happens.{Occurrence, Runs, Reached, occurrence_of, world_of}
use Rattle.device_model.specs.Turns.{count_changes}
use Rattle.device_model.proofs.Running.{runs_on}
use Rattle.device_model.proofs.Turning.{may, changes}
use Rattle.device_model.specs.Order.{IsQuiet, IsAtRest, IsQuietOf, IsAtRestOf}
use Rattle.device_model.specs.Settling.{Settles, SettlesOf}
use Rattle.device_model.proofs.Rests.{quiet_rests, quiet_rests_of}
use Rattle.device_model.proofs.Bounds.{AreOwnTransitions, settles_of_own}

pub settles_run : (w : PlainWorld) (more : List Transition) → Settles w more
    → Runs w (map occurrence_of more) (world_of w more)
settles_run w [] s = refl
settles_run w (d ∷ past) s = (
  world_of w past,
  settles_run w past s.0,
  record { transition = d; event = refl; action = refl; may = may d (world_of w past) s.1; is = refl },
)

pub each_changes : (w : PlainWorld) (more : List Transition) → Settles w more
    → count_changes (map occurrence_of more) ≡ length more
each_changes w [] s = refl
each_changes w (d ∷ past) s =
    let a = each_changes w past s.0 in
    let b = ap bit (changes d (world_of w past) s.1) in
    omega (arith, a, b)

-- the same of the queues that are asked

own_run : (w : PlainWorld) (more : List Transition) → AreOwnTransitions w more → Runs w (map occurrence_of more) (world_of w more)
own_run w [] s = refl
own_run w (d ∷ past) s = (
  world_of w past,
  own_run w past s.0,
  record { transition = d; event = refl; action = refl; may = may d (world_of w past) s.1; is = refl },
)

own_changes : (w : PlainWorld) (more : List Transition) → AreOwnTransitions w more
    → count_changes (map occurrence_of more) ≡ length more
own_changes w [] s = refl
own_changes w (d ∷ past) s =
    let a = own_changes w past s.0 in
    let b = ap bit (changes d (world_of w past) s.1) in
    omega (arith, a, b)

pub settles_of_run : (asked : ℕ → Bool) (w : PlainWorld) (more : List Transition) → SettlesOf asked w more
    → Runs w (map occurrence_of more) (world_of w more)
settles_of_run asked w more s = own_run w more (settles_of_own asked w more s)

pub each_changes_of : (asked : ℕ → Bool) (w : PlainWorld) (more : List Transition) → SettlesOf asked w more
    → count_changes (map occurrence_of more) ≡ length more
each_changes_of asked w more s = own_changes w more (settles_of_own asked w more s)

pub settles_of_to_rest : (asked : ℕ → Bool) (old : PlainWorld) (trace : List Occurrence) (w : PlainWorld)
    (more : List Transition) → Reached old trace w → SettlesOf asked w more → IsQuietOf asked (world_of w more)
    → IsAtRestOf asked (world_of w more)
settles_of_to_rest asked old trace w more r s q =
    let v = world_of w more in
    let all = map occurrence_of more in
    let runs = runs_on old w v trace all r.runs (settles_of_run asked w more s) in
    quiet_rests_of asked old (all ++ trace) v (record { opens = r.opens; runs = runs }) q

pub settles_to_rest : (old : PlainWorld) (trace : List Occurrence) (w : PlainWorld) (more : List Transition)
    → Reached old trace w → Settles w more → IsQuiet (world_of w more) → IsAtRest (world_of w more)
settles_to_rest old trace w more r s q =
    let v = world_of w more in
    let all = map occurrence_of more in
    let runs = runs_on old w v trace all r.runs (settles_run w more s) in
    quiet_rests old (all ++ trace) v (record { opens = r.opens; runs = runs }) q
