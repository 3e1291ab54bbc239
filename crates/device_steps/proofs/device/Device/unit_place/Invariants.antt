use Rattle.std.proofs.Common.{◌≡◌, length}
use Rattle.std.specs.Prelude.{drop, find, ◌==◌, ◌&&◌}
use Rattle.unit_model.specs.Unit.{PlainUnit}
use Rattle.device_steps.specs.Views.{unit_of}
use Rattle.device_steps.proofs.device.Device.unit_place.Given as goal

abbrev pub invariant-loop-unit_index : goal.invariant-loop-unit_index
invariant-loop-unit_index l =
    record {
      rest : unit_of l.fn.self.units l.target l.lun
          ≡ find (λ (u : PlainUnit). (u.opening.target == l.target) && (u.opening.lun == l.lun)) (drop l.unit_index l.fn.self.units);
      all : l.unit_index-end ≡ length l.fn.self.units;
    }
