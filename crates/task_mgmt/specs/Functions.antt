-- Task management functions (SAM-5 §7.1): what each does on its units, and how far it has come.
use Rattle.std.specs.Prelude.{ℕ, Bool, true, false, ◌==◌, ◌&&◌, ◌||◌, if◌then◌else◌, List, [], ◌∷◌, ◌++◌, length, drop, slice_index, Option, Some, None}
use Rattle.unit_attention.specs.Code.{code}
use Rattle.unit_model.specs.Steps.{Step}
use Rattle.unit_model.specs.declared.rule.Rule.TheVariants.{Id, All}
use Rattle.scsi_codec.specs.declared.control_queue.FunctionResponse.{FunctionResponse}
use Rattle.scsi_codec.specs.declared.control_queue.FunctionResponse.TheVariants.{Complete, Failure, Succeeded}
use Rattle.task_mgmt.specs.declared.kind.MarkBy.{MarkBy}
use Rattle.task_mgmt.specs.declared.kind.MarkBy.TheVariants.{Abort, Reset}
use Rattle.task_mgmt.specs.declared.kind.Kind.{Kind}
use Rattle.task_mgmt.specs.declared.kind.Kind.TheVariants.{Marking, Querying}
use Rattle.task_mgmt.specs.declared.function.Mark.{Mark}

-- own: the step of a unit's history that a mark is
abbrev pub step_by : MarkBy → Step
step_by (Abort rule) = Step.Abort rule
step_by (Reset c) = Step.Reset c

-- what a function does on each of its units, by its subtype (VIRTIO 1.2 §5.6.6.2): ABORT TASK, ABORT TASK SET, CLEAR
-- TASK SET, I_T NEXUS RESET, LOGICAL UNIT RESET, QUERY TASK, QUERY TASK SET (SAM-5 §7.2, §7.3, §7.5 to §7.9). CLEAR
-- ACA, 2 (SAM-5 §7.4), and QUERY ASYNCHRONOUS EVENT (SAM-5 §7.10) aren't offered.
abbrev pub kind_of : ℕ → ℕ → Option Kind
kind_of subtype id =
    if subtype == 0 then Some (Marking (Abort (Id id)))
    else (if subtype == 1 then Some (Marking (Abort All))
    else (if subtype == 3 then Some (Marking (Abort All))
    else (if subtype == 4 then Some (Marking (Reset (code 0x29 0x07)))
    else (if subtype == 5 then Some (Marking (Reset (code 0x29 0x03)))
    else (if subtype == 6 then Some (Querying (Id id))
    else (if subtype == 7 then Some (Querying All) else None))))))

-- own: what a function does, whether a look found a task, whether a mark was refused memory, the units that are left,
-- by their indices in the inventory, and the marks and looks that are still to be clear, in order
pub record PlainFunction : Type 0 where
  pub kind : Kind
  pub found : Bool
  pub refused : Bool
  pub left : List ℕ
  pub waits : List Mark

-- own: a function that has visited none of its units
abbrev pub opened : Kind → List ℕ → PlainFunction
opened kind units = record { kind = kind; found = false; refused = false; left = units; waits = [] }

-- own: the next unit was marked
abbrev pub marking : Mark → PlainFunction → PlainFunction
marking mark f = record f { left = drop 1 f.left; waits = f.waits ++ mark ∷ [] }

-- own: the mark of the next unit, at a place of its history
abbrev pub next_mark : ℕ → PlainFunction → Mark
next_mark place f = record { unit = slice_index f.left 0; place = place }

-- own: what a query waits for at the next unit is no step: place 0, before which no task entered, so that it is clear
-- whatever is alive there, and whatever comes to stand later
abbrev pub next_look : PlainFunction → Mark
next_look f = next_mark 0 f

-- own: a query looked at the next unit
abbrev pub asking : Bool → PlainFunction → PlainFunction
asking found f =
    record f { found = found || f.found; left = drop 1 f.left; waits = f.waits ++ next_look f ∷ [] }

-- own: a mark was refused memory: no unit is left
abbrev pub failing : PlainFunction → PlainFunction
failing f = record f { refused = true; left = [] }

-- own: the first mark is clear
abbrev pub checking : PlainFunction → PlainFunction
checking f = record f { waits = drop 1 f.waits }

-- own: every unit was visited, and every mark and look is clear
abbrev pub is_over : PlainFunction → Bool
is_over f = (length f.left == 0) && (length f.waits == 0)

-- a query answers whether it found a task (SAM-5 §7.8, §7.9), every other function that it is complete (SAM-5 §7.1)
abbrev pub response_by : Kind → Bool → FunctionResponse
response_by (Marking mark) found = Complete
response_by (Querying rule) found = if found then Succeeded else Complete

abbrev pub response_of : PlainFunction → FunctionResponse
response_of f = if f.refused then Failure else response_by f.kind f.found
