use Rattle.std.proofs.Common.{◌≡◌, ℕ}
use Rattle.backed_store.specs.Disks.{size_of, blocks_of, hosted_of}
use Rattle.logical_unit.proofs.making_room.drop_pages.Given as goal

abbrev pub invariant-loop-number : goal.invariant-loop-number
invariant-loop-number l =
    record {
      blocks : (b : ℕ) → blocks_of l.store b ≡ blocks_of l.initial.store b;
      size : size_of l.store ≡ size_of l.initial.store;
      storage : hosted_of l.store ≡ hosted_of l.initial.store;
    }
