-- Rests on `specs/Control.antt`; no promise rests on it.
use Rattle.std.specs.Prelude.{ℕ, ◌≡◌, ◌<◌, ◌≤◌, List, length}
use Rattle.std.specs.List.{AllByRecursion}
use Rattle.scsi_codec.specs.ControlQueue.{IsControl}
use Rattle.task_mgmt.specs.Control.{decided_of}
use Rattle.scsi_codec.specs.declared.lun.Address.{Address}
use Rattle.scsi_codec.specs.declared.control_queue.Control.{Control}
use Rattle.task_mgmt.specs.declared.control.ControlDecision.{ControlDecision}
use Rattle.task_mgmt.specs.declared.control.ControlDecision.TheVariants.{Direct, Opens}

-- of these bytes, which ask for exactly one thing
abbrev pub Decides : List Address → List ℕ → ℕ → ControlDecision → Type 0
Decides units bytes writable d = (c : Control) → IsControl bytes c → d ≡ decided_of units c writable

-- an answer fits into the chain; a function has room for its response, and its units are there
abbrev pub Suits : ℕ → ℕ → ControlDecision → Type 0
Suits units writable (Direct answer) = (length answer ≤ 5) × (length answer ≤ writable)
Suits units writable (Opens f) = (1 ≤ writable) × AllByRecursion (λ unit_index. unit_index < units) f.left
