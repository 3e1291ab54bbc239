-- What is decided of a chain of the control queue.
use Rattle.std.proofs.Common.{◌≡◌, ℕ, List, false, Option, Some, None, is_some, refl, ap, sym, ◌∙◌}
use Rattle.scsi_codec.specs.declared.control_queue.Control.{Control}
use Rattle.scsi_codec.specs.ControlQueue.{IsControl}
use Rattle.request_intake.specs.Inventory.{PlainInventory}
use Rattle.task_mgmt.specs.Control.{decided_of}
use Rattle.task_mgmt.specs.Inner.Control.{Decides}
use Rattle.task_mgmt.specs.declared.control.ControlDecision.{ControlDecision}
use Rattle.ring_core.specs.State.{PlainChain}
use Rattle.ring_core.specs.Parts.{writable_total}
use Rattle.device_model.specs.Event.Fetch.{DecidesControl}

-- what is decided of the one thing that the bytes ask for is decided of the chain
pub decided_as : (inventory : PlainInventory) (c : PlainChain) (bytes : List ℕ) (room : ℕ) (d : ControlDecision)
    → ((x : Control) × IsControl bytes x) → room ≡ writable_total c.parts
    → Decides inventory.addresses bytes room d → DecidesControl inventory (record { chain = c; bytes = bytes }) d
decided_as inventory c bytes room d (x, asks) rooms decides =
    (x, asks, sym (decides x asks ∙ ap (decided_of inventory.addresses x) rooms))

-- an option that hasn't some has none
pub none_of : {X : Type 0} (o : Option X) → false ≡ is_some o → o ≡ None
none_of None none = refl
none_of (Some x) none = absurd (cc)
