use Rattle.std.proofs.Common.{◌≡◌, ◌<◌, ℕ, length, Some}
use Rattle.std.specs.Prelude.{slice_get}
use Rattle.request_intake.specs.declared.inventory.UnitSpec.{UnitSpec}
use Rattle.device_opening.specs.Opening.{opening_unit}
use Rattle.device_opening.proofs.opening.open_units.Given as goal

abbrev pub invariant-loop-number : goal.invariant-loop-number
invariant-loop-number l =
    record {
      count : length l.units.items ≡ l.number;
      each : (k : ℕ) (u : UnitSpec) → k < l.number → slice_get l.wanted k ≡ Some u
          → slice_get l.units.items k ≡ Some (opening_unit l.inventory.addresses l.keeps_replies u);
    }
