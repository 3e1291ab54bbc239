-- Rests on `specs/Units.antt`; no promise rests on it.
use Rattle.std.specs.Prelude.{ℕ, ◌≡◌, ◌⊎◌, Bool, true, false, List, [], ◌∷◌, length, Result, Ok, Err}
use Rattle.foundation.specs.declared.NoMemory.{NoMemory}
use Rattle.request_intake.specs.Inventory.{PlainInventory}
use Rattle.command_model.specs.PlainReply.{PlainReply}
use Rattle.unit_model.specs.Jobs.{PlainJob, Jobs}
use Rattle.unit_model.specs.Unit.{PlainUnit, after as stepped}
use Rattle.device_model.specs.Parts.{Hand}
use Rattle.task_mgmt.specs.Functions.{step_by}
use Rattle.task_mgmt.specs.declared.kind.Kind.{Kind}
use Rattle.task_mgmt.specs.declared.kind.Kind.TheVariants.{Marking, Querying}
use Rattle.task_mgmt.specs.declared.kind.MarkBy.{MarkBy}
use Rattle.device_model.specs.World.{Opened}
use Rattle.device_model.specs.Transitions.{Transition}
use Rattle.device_model.specs.Found.{handed_out}
use Rattle.phases.specs.DoingUnit.{DoesUnit, HasPlaces, with_more}
use Rattle.phases.specs.Units.{Commits, StaysMark, FailsMark, MarksTasks, MarksUnit}
use Rattle.phases.specs.declared.marking.Visited.{Visited}
use Rattle.phases.specs.declared.marking.Visited.TheVariants as visited

-- the tasks of a unit are marked, or memory was refused
abbrev pub MarksBy : MarkBy → PlainUnit → Jobs → Result ℕ NoMemory → PlainUnit → Jobs → Type 0
MarksBy m u out (Ok place) u' out' =
    (place ≡ length u.steps) × (u' ≡ stepped (step_by m) u) × (out' ≡ with_more (handed_out u (step_by m)) out)
MarksBy m u out (Err e) u' out' = (u' ≡ u) × (out' ≡ out)

-- the command has to wait, or runs and its reply is withheld
abbrev pub PutsAside : ℕ → PlainJob → PlainUnit → PlainUnit → Type 0
PutsAside k x u u' =
    DoesUnit (Transition.Defer k x) u u' ⊎ ((r : PlainReply) × DoesUnit (Transition.Withhold k x r) u u')

-- the job is put aside: the hand is empty, and the job stands behind those that wait
abbrev pub DefersTo : PlainJob → PlainUnit → Jobs → PlainUnit → Hand → Jobs → Type 0
DefersTo x u aside u' h' aside' =
    (k : ℕ) → PutsAside k x u u' × (h' ≡ Hand.Empty) × (aside' ≡ with_more (x ∷ []) aside)

-- a commit, or the job goes behind those that wait: it never stays in the hand
abbrev pub CommitsOrDefers : Hand → PlainUnit → Jobs → Bool → PlainUnit → Hand → Jobs → Type 0
CommitsOrDefers (Hand.Taken x) u aside true u' h' aside' =
    (Commits (Hand.Taken x) u true u' h' × (aside' ≡ aside)) ⊎ DefersTo x u aside u' h' aside'
CommitsOrDefers (Hand.Taken x) u aside false u' h' aside' = ⊥
CommitsOrDefers h u aside b u' h' aside' = Commits h u b u' h' × (aside' ≡ aside)

-- what the open function does at its next unit, as `Marks` says it, where it is told whether tasks were marked
abbrev pub VisitsUnit : PlainInventory → Opened → ℕ → Kind → PlainUnit → Jobs → Visited → PlainUnit → Opened → Jobs → Type 0
VisitsUnit inventory f unit_index (Marking m) u out visited.Marked u' f' out' = MarksTasks inventory f unit_index m u out u' f' out'
VisitsUnit inventory f unit_index (Marking m) u out visited.Other u' f' out' = FailsMark u u' f f' out out'
VisitsUnit inventory f unit_index (Querying rule) u out visited.Other u' f' out' =
    MarksUnit inventory f unit_index (Querying rule) u out u' f' out'
VisitsUnit inventory f unit_index kind u out visited u' f' out' = ⊥

abbrev pub VisitsNext : PlainInventory → Opened → List ℕ → PlainUnit → Jobs → Visited → PlainUnit → Opened → Jobs → Type 0
VisitsNext inventory f (unit_index ∷ later) u out visited.Nothing u' f' out' =
    (HasPlaces out → ⊥) × StaysMark u u' f f' out out'
VisitsNext inventory f (unit_index ∷ later) u out visited u' f' out' =
    VisitsUnit inventory f unit_index f.function.kind u out visited u' f' out'
VisitsNext inventory f [] u out visited.Nothing u' f' out' = StaysMark u u' f f' out out'
VisitsNext inventory f [] u out visited u' f' out' = ⊥

abbrev pub Visits : PlainInventory → Opened → PlainUnit → Jobs → Visited → PlainUnit → Opened → Jobs → Type 0
Visits inventory f u out visited u' f' out' = VisitsNext inventory f f.function.left u out visited u' f' out'
