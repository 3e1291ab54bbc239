use Rattle.std.proofs.Common.{◌≡◌, ℕ, ◌+◌, ◌-◌, ◌<◌, ◌≤◌, ◌||◌, false, length}
use Rattle.command_model.specs.UnmapList.{descriptors_in, is_named}
use Rattle.block_commands.proofs.Descriptors.{left}
use Rattle.logical_unit.specs.Changes.{is_in}
use Rattle.logical_unit.proofs.changes.Changes.add_extents.Given as goal

-- there is place for the descriptors that are left, and with these all are noted
abbrev pub invariant-loop-i : goal.invariant-loop-i
invariant-loop-i l = record {
  since : l.self.since ≡ l.fn.self.since;
  place : length l.self.ranges + (l.count - l.i) ≤ 64;
  covers : (b : ℕ) → b < l.capacity → is_in l.self.ranges b ≡ false → is_named (left l.count l.i l.taken) b ≡ false
      → (is_in l.fn.self.ranges b || is_named (descriptors_in l.count l.taken) b) ≡ false;
}
