use Rattle.std.proofs.Common.{◌≡◌, ◌≤◌, ℕ, [], length}
use Rattle.unit_model.specs.Unit.{PlainUnit}
use Rattle.device_model.specs.World.{Everywhere}
use Rattle.device_steps.specs.Opening.{over_disks}
use Rattle.device_steps.proofs.opening.hand_in.Given as goal

abbrev pub invariant-loop-disk : goal.invariant-loop-disk
invariant-loop-disk l =
    record {
      fresh : Everywhere (λ (k : ℕ) (u : PlainUnit). u.steps ≡ []) l.units.items;
      enough : length l.disks.items ≤ length l.units.items;
      same : over_disks l.units.items l.disks.items ≡ over_disks l.initial.units.items l.initial.disks.items;
    }

abbrev pub decreases-loop-disk : goal.decreases-loop-disk
decreases-loop-disk l = goal.left-loop-disk l
