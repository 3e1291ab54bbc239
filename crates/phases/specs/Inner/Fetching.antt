-- Rests on `specs/Fetching.antt`; no promise rests on it.
use Rattle.std.specs.Prelude.{ℕ, ◌≡◌, ◌⊎◌, List, Option, Some, slice_get}
use Rattle.ring_core.specs.State.{PlainChain}
use Rattle.request_intake.specs.Inventory.{PlainInventory}
use Rattle.request_intake.specs.declared.decision.Decision.TheVariants as decision
use Rattle.task_mgmt.specs.Functions.{PlainFunction}
use Rattle.task_mgmt.specs.declared.control.ControlDecision.TheVariants as managed
use Rattle.device_model.specs.Parts.{Outcome, Slot, request_of}
use Rattle.device_model.specs.Event.Fetch.{DecidesRequest, DecidesControl}
use Rattle.device_model.specs.World.{Opened}

-- what was decided of a chain of a request queue with these bytes stands in the slot
abbrev pub Arrives : PlainInventory → PlainChain → List ℕ → Slot → Type 0
Arrives inventory c bytes Slot.Empty = ⊥
Arrives inventory c bytes (Slot.Arrived x) =
    (x.chain ≡ c) × (x.entry.ticket ≡ c.ticket)
    × DecidesRequest inventory (record { chain = c; bytes = bytes }) (decision.Enter x.unit (request_of x.entry))
    × (slice_get inventory.addresses x.unit ≡ Some x.address)
Arrives inventory c bytes (Slot.Direct d o) =
    (a : List ℕ) × (d ≡ c) × (o ≡ Outcome.Decided a)
    × DecidesRequest inventory (record { chain = c; bytes = bytes }) (decision.Direct a)

-- what was decided of a chain of the control queue with these bytes stands in the slot, or opens
abbrev pub IsDecided : PlainInventory → PlainChain → List ℕ → Slot → Option Opened → Slot → Option Opened → Type 0
IsDecided inventory c bytes s f s' f' =
    ((a : List ℕ) × (s' ≡ Slot.Direct c (Outcome.Decided a)) × (f' ≡ f)
    × DecidesControl inventory (record { chain = c; bytes = bytes }) (managed.Direct a))
    ⊎ ((g : PlainFunction) × (f' ≡ Some (record { chain = c; function = g })) × (s' ≡ s)
    × DecidesControl inventory (record { chain = c; bytes = bytes }) (managed.Opens g))
