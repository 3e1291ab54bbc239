-- What the phases do that work on a unit.
use Rattle.std.specs.Prelude.{ℕ, ◌≡◌, ◌⊎◌, Bool, true, false, List, [], ◌∷◌, length}
use Rattle.command_model.specs.PlainReply.{PlainReply}
use Rattle.request_intake.specs.Inventory.{PlainInventory}
use Rattle.unit_model.specs.Tasks.{Entry, task_of}
use Rattle.unit_model.specs.Steps.{Step, alive}
use Rattle.unit_model.specs.Endings.{Ending}
use Rattle.unit_model.specs.Clearing.{is_clear}
use Rattle.unit_model.specs.Seen.{any_met}
use Rattle.unit_model.specs.Jobs.{PlainJob, Jobs}
use Rattle.unit_model.specs.Unit.{PlainUnit, HasToWait}
use Rattle.logical_unit.specs.Calls.{CannotLeave}
use Rattle.task_mgmt.specs.Functions.{marking, asking, failing, checking, step_by}
use Rattle.task_mgmt.specs.declared.kind.Kind.{Kind}
use Rattle.task_mgmt.specs.declared.kind.Kind.TheVariants.{Marking, Querying}
use Rattle.task_mgmt.specs.declared.kind.MarkBy.{MarkBy}
use Rattle.task_mgmt.specs.declared.function.Mark.{Mark as MarkAt}
use Rattle.device_model.specs.Parts.{Outcome, Slot, Hand}
use Rattle.device_model.specs.World.{Opened}
use Rattle.device_model.specs.Addressed.{IsAddressed}
use Rattle.device_model.specs.Transitions.{Transition}
use Rattle.device_model.specs.Found.{handed_out}
use Rattle.device_model.specs.Laws.{brings}
use Rattle.phases.specs.DoingUnit.{DoesUnit, HasPlaces, with_more}

-- Enter

-- a transition of the job's entering
abbrev pub IsEntering : PlainJob → Transition → Type 0
IsEntering x (Transition.Run y) = y ≡ x
IsEntering x (Transition.Park y) = y ≡ x
IsEntering x (Transition.EnterFull y) = y ≡ x
IsEntering x (Transition.EnterBusy y) = y ≡ x
IsEntering x (Transition.EnterStale y) = y ≡ x
IsEntering x d = ⊥

-- what stands in the slot then
abbrev pub slot_after : Transition → Slot
slot_after (Transition.EnterFull x) = Slot.Direct x.chain (Outcome.Ended Ending.Full)
slot_after (Transition.EnterBusy x) = Slot.Direct x.chain (Outcome.Ended Ending.Busy)
slot_after (Transition.EnterStale x) = Slot.Direct x.chain (Outcome.Ended Ending.Lost)
slot_after d = Slot.Empty

-- nothing changed
pub record StaysUnit (u u' : PlainUnit) (s s' : Slot) (out out' : Jobs) : Type 0 where
  pub unit : u' ≡ u
  pub slot : s' ≡ s
  pub jobs : out' ≡ out

abbrev pub EntersAs : PlainJob → PlainUnit → Jobs → PlainUnit → Slot → Jobs → Type 0
EntersAs x u out u' s' out' =
    (d : Transition) × IsEntering x d × DoesUnit d u u' × (s' ≡ slot_after d) × (out' ≡ with_more (brings d) out)

abbrev pub Enters : Slot → PlainUnit → Jobs → Bool → PlainUnit → Slot → Jobs → Type 0
Enters (Slot.Arrived x) u out true u' s' out' = EntersAs x u out u' s' out'
Enters (Slot.Arrived x) u out false u' s' out' =
    (HasPlaces out → ⊥) × StaysUnit u u' (Slot.Arrived x) s' out out'
Enters s u out true u' s' out' = ⊥
Enters s u out false u' s' out' = StaysUnit u u' s s' out out'

-- Commit

-- a transition of the job's commit by a seat
abbrev pub IsCommitting : ℕ → PlainJob → Transition → Type 0
IsCommitting k x (Transition.Commit j y r) = (j ≡ k) × (y ≡ x)
IsCommitting k x (Transition.CommitBusy j y) = (j ≡ k) × (y ≡ x)
IsCommitting k x (Transition.CommitAborted j y why) = (j ≡ k) × (y ≡ x)
IsCommitting k x (Transition.CommitUnknown j y) = (j ≡ k) × (y ≡ x)
IsCommitting k x (Transition.Conclude j y r) = (j ≡ k) × (y ≡ x)
IsCommitting k x d = ⊥

-- how the job ended
abbrev pub ending_after : Transition → Ending
ending_after (Transition.Commit k x r) = Ending.Replied r
ending_after (Transition.CommitBusy k x) = Ending.Busy
ending_after (Transition.CommitAborted k x why) = Ending.Aborted why
ending_after (Transition.Conclude k x r) = Ending.Replied r
ending_after d = Ending.Lost

-- nothing changed: the command of the job has to wait before it runs, or its reply is withheld
pub record WaitsInHand (x : PlainJob) (u u' : PlainUnit) (h' : Hand) : Type 0 where
  pub unit : u' ≡ u
  pub hand : h' ≡ Hand.Taken x
  pub entry : Entry
  pub waits : HasToWait u x.entry.ticket entry

-- the command of the job runs, and its reply is withheld, whatever the seat; never where the unit's disk isn't backed
pub record WithholdsInHand (x : PlainJob) (u u' : PlainUnit) (h' : Hand) : Type 0 where
  pub reply : PlainReply
  pub does : (k : ℕ) → DoesUnit (Transition.Withhold k x reply) u u'
  pub hand : h' ≡ Hand.Taken x

-- a commit; or the job waits, so only where it has to; or its reply does
abbrev pub Commits : Hand → PlainUnit → Bool → PlainUnit → Hand → Type 0
Commits (Hand.Taken x) u true u' h' =
    (k : ℕ) → (d : Transition) × IsCommitting k x d × DoesUnit d u u' × (h' ≡ Hand.Done x (Outcome.Ended (ending_after d)))
Commits (Hand.Taken x) u false u' h' = WaitsInHand x u u' h' ⊎ WithholdsInHand x u u' h'
Commits h u true u' h' = ⊥
Commits h u false u' h' = (u' ≡ u) × (h' ≡ h)

-- Leave

-- where there is no room nothing is done; where the unit knows no such task, what the hand held is let go
abbrev pub Leaves : Hand → PlainUnit → Jobs → Bool → PlainUnit → Hand → Jobs → Type 0
Leaves (Hand.Answered unit_index t) u out true u' h' out' =
    (k : ℕ) → DoesUnit (Transition.Leave k unit_index t (handed_out u (Step.Leave t))) u u'
    × (h' ≡ Hand.Empty) × (out' ≡ with_more (handed_out u (Step.Leave t)) out)
Leaves (Hand.Answered unit_index t) u out false u' h' out' =
    (u' ≡ u) × (out' ≡ out)
    × (((HasPlaces out → ⊥) × (h' ≡ Hand.Answered unit_index t))
    ⊎ (CannotLeave (task_of t (alive u.steps)) t u.steps × (h' ≡ Hand.Empty)))
Leaves h u out true u' h' out' = ⊥
Leaves h u out false u' h' out' = (u' ≡ u) × (h' ≡ h) × (out' ≡ out)

-- Mark

-- nothing changed
pub record StaysMark (u u' : PlainUnit) (f f' : Opened) (out out' : Jobs) : Type 0 where
  pub unit : u' ≡ u
  pub function : f' ≡ f
  pub jobs : out' ≡ out

-- a mark of a unit stands behind all its steps
abbrev pub mark_at : ℕ → PlainUnit → MarkAt
mark_at unit_index u = record { unit = unit_index; place = length u.steps }

-- the function fails, and nothing else changed
pub record FailsMark (u u' : PlainUnit) (f f' : Opened) (out out' : Jobs) : Type 0 where
  pub unit : u' ≡ u
  pub function : f' ≡ record f { function = failing f.function }
  pub jobs : out' ≡ out

-- the unit is the one that the function names, and its tasks are marked
abbrev pub MarksTasks : PlainInventory → Opened → ℕ → MarkBy → PlainUnit → Jobs → PlainUnit → Opened → Jobs → Type 0
MarksTasks inventory f unit_index m u out u' f' out' =
    IsAddressed inventory unit_index u
    × DoesUnit (Transition.Mark f.chain.ticket (mark_at unit_index u) m (handed_out u (step_by m))) u u'
    × (f' ≡ record f { function = marking (mark_at unit_index u) f.function })
    × (out' ≡ with_more (handed_out u (step_by m)) out)

-- the unit is the one that the function names, and is marked or looked at; or the function fails: there, or where a mark is
-- refused memory
abbrev pub MarksUnit : PlainInventory → Opened → ℕ → Kind → PlainUnit → Jobs → PlainUnit → Opened → Jobs → Type 0
MarksUnit inventory f unit_index (Marking m) u out u' f' out' =
    MarksTasks inventory f unit_index m u out u' f' out' ⊎ FailsMark u u' f f' out out'
MarksUnit inventory f unit_index (Querying rule) u out u' f' out' =
    (IsAddressed inventory unit_index u
    × DoesUnit (Transition.Ask f.chain.ticket unit_index rule (any_met rule (alive u.steps))) u u'
    × (f' ≡ record f { function = asking (any_met rule (alive u.steps)) f.function }) × (out' ≡ out))
    ⊎ ((IsAddressed inventory unit_index u → ⊥) × FailsMark u u' f f' out out')

abbrev pub MarksNext : PlainInventory → Opened → List ℕ → PlainUnit → Jobs → Bool → PlainUnit → Opened → Jobs → Type 0
MarksNext inventory f (unit_index ∷ later) u out true u' f' out' =
    MarksUnit inventory f unit_index f.function.kind u out u' f' out'
MarksNext inventory f (unit_index ∷ later) u out false u' f' out' = (HasPlaces out → ⊥) × StaysMark u u' f f' out out'
MarksNext inventory f [] u out true u' f' out' = ⊥
MarksNext inventory f [] u out false u' f' out' = StaysMark u u' f f' out out'

-- a function goes on at its next unit, whose address stands in the inventory
abbrev pub Marks : PlainInventory → Opened → PlainUnit → Jobs → Bool → PlainUnit → Opened → Jobs → Type 0
Marks inventory f u out result u' f' out' = MarksNext inventory f f.function.left u out result u' f' out'

-- Check

-- the first mark is clear at its unit; or the unit is another: the function fails, and waits for this mark no more
abbrev pub ChecksMark : PlainInventory → Opened → MarkAt → PlainUnit → Opened → Type 0
ChecksMark inventory f p u f' =
    (IsAddressed inventory p.unit u × DoesUnit (Transition.Check f.chain.ticket p) u u
    × (f' ≡ record f { function = checking f.function }))
    ⊎ ((IsAddressed inventory p.unit u → ⊥) × (f' ≡ record f { function = checking (failing f.function) }))

abbrev pub ChecksFirst : PlainInventory → Opened → List ℕ → List MarkAt → PlainUnit → Bool → Opened → Type 0
ChecksFirst inventory f [] (p ∷ later) u true f' = ChecksMark inventory f p u f'
ChecksFirst inventory f [] (p ∷ later) u false f' =
    IsAddressed inventory p.unit u × (is_clear p.place u.steps ≡ false) × (f' ≡ f)
ChecksFirst inventory f left waits u true f' = ⊥
ChecksFirst inventory f left waits u false f' = f' ≡ f

abbrev pub Checks : PlainInventory → Opened → PlainUnit → Bool → Opened → Type 0
Checks inventory f u result f' = ChecksFirst inventory f f.function.left f.function.waits u result f'
