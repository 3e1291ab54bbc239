use Rattle.std.proofs.Common.{◌≡◌, ◌<◌, ℕ, length, Some}
use Rattle.std.specs.Prelude.{slice_get}
use Rattle.unit_model.specs.Unit.{PlainUnit}
use Rattle.device_steps.proofs.device.Device.unit_index.Given as goal

abbrev pub invariant-loop-unit_index : goal.invariant-loop-unit_index
invariant-loop-unit_index l =
    record {
      none : (k : ℕ) (u : PlainUnit) → k < l.unit_index → slice_get l.fn.self.units k ≡ Some u → u.opening.target ≡ l.target
          → u.opening.lun ≡ l.lun → ⊥;
      all : l.unit_index-end ≡ length l.fn.self.units;
    }
