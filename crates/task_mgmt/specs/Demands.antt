-- What a task management function is demanded to do, and on which units (VIRTIO 1.2 §5.6.6.2).
use Rattle.std.specs.Prelude.{ℕ, Bool, false, ◌==◌, if◌then◌else◌, List, [], ◌∷◌, length, filter, slice_get, Option, Some, None, Result, Ok, Err}
use Rattle.std.specs.List.{range_with_len}
use Rattle.scsi_codec.specs.declared.lun.Address.{Address}
use Rattle.scsi_codec.specs.declared.control_queue.FunctionResponse.{FunctionResponse}
use Rattle.scsi_codec.specs.declared.control_queue.FunctionResponse.TheVariants.{BadTarget, Rejected, IncorrectLun}
use Rattle.request_intake.specs.Inventory.{has_target, index_of}
use Rattle.task_mgmt.specs.declared.kind.Kind.{Kind}
use Rattle.task_mgmt.specs.Functions.{PlainFunction, kind_of, opened}

abbrev pub is_of_target : ℕ → Option Address → Bool
is_of_target target None = false
is_of_target target (Some a) = a.target == target

-- own: the indexes of a target's units, rising
abbrev pub indexes_of : List Address → ℕ → List ℕ
indexes_of units target = filter (λ unit_index. is_of_target target (slice_get units unit_index)) (range_with_len 0 (length units))

-- the unit at this index, which the target may lack
abbrev pub demanded_of_unit : Option ℕ → Kind → Result (Kind × List ℕ) FunctionResponse
demanded_of_unit None kind = Err IncorrectLun
demanded_of_unit (Some unit_index) kind = Ok (kind, unit_index ∷ [])

-- I_T NEXUS RESET, 4, is for all units of the target, whatever the LUN (SAM-5 §7.6), every other function for one
abbrev pub demanded_of_target : List Address → ℕ → Address → Kind → Result (Kind × List ℕ) FunctionResponse
demanded_of_target units subtype a kind =
    if subtype == 4 then Ok (kind, indexes_of units a.target) else demanded_of_unit (index_of units a) kind

-- an address that isn't readable, or a target that isn't there
abbrev pub demanded_at : List Address → ℕ → Option Address → Kind → Result (Kind × List ℕ) FunctionResponse
demanded_at units subtype None kind = Err BadTarget
demanded_at units subtype (Some a) kind =
    if has_target units a.target then demanded_of_target units subtype a kind else Err BadTarget

-- a subtype that isn't offered
abbrev pub demanded_by : Option Kind → List Address → ℕ → Option Address → Result (Kind × List ℕ) FunctionResponse
demanded_by None units subtype address = Err Rejected
demanded_by (Some kind) units subtype address = demanded_at units subtype address kind

-- what a function of this subtype, for the unit of this address and about the command of this identifier, does and on
-- which units, or why it is refused: the first cause that holds. The order is own.
abbrev pub demanded : List Address → ℕ → Option Address → ℕ → Result (Kind × List ℕ) FunctionResponse
demanded units subtype address id = demanded_by (kind_of subtype id) units subtype address

-- own: the function that begins so
abbrev pub begun : Result (Kind × List ℕ) FunctionResponse → Result PlainFunction FunctionResponse
begun (Ok (kind, units)) = Ok (opened kind units)
begun (Err response) = Err response
