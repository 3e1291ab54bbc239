-- What stands in a slot, as plain values.
use Rattle.std.specs.Prelude.{ℕ, Bool, true, false, Option, Some, None}
use Rattle.device_model.specs.Parts.{Slot}
use Rattle.phases.specs.declared.slot.Slot as declared_slot
use Rattle.phases.specs.declared.slot.Slot.TheVariants as slot

abbrev pub slot_of : declared_slot.Slot → Slot
slot_of slot.Empty = Slot.Empty
slot_of (slot.Arrived x) = Slot.Arrived x
slot_of (slot.Direct r) = Slot.Direct r.chain r.outcome

-- the unit that a request came for
abbrev pub arrived_unit : Slot → Option ℕ
arrived_unit Slot.Empty = None
arrived_unit (Slot.Arrived x) = Some x.unit
arrived_unit (Slot.Direct c o) = None

-- a chain is to be answered
abbrev pub is_direct : Slot → Bool
is_direct Slot.Empty = false
is_direct (Slot.Arrived x) = false
is_direct (Slot.Direct c o) = true
