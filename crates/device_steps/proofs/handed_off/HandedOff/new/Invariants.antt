use Rattle.std.proofs.Common.{◌≡◌, ℕ, [], length}
use Rattle.unit_model.specs.Jobs.{Jobs}
use Rattle.device_model.specs.World.{Everywhere}
use Rattle.device_steps.proofs.handed_off.HandedOff.new.Given as goal

abbrev pub invariant-loop-number : goal.invariant-loop-number
invariant-loop-number l =
    record {
      count : length l.lists.items ≡ l._number;
      each : Everywhere (λ (k : ℕ) (j : Jobs). j ≡ record { jobs = []; limit = l.limit }) l.lists.items;
    }
