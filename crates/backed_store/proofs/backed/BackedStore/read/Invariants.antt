use Rattle.std.proofs.Common.{◌≡◌, ◌+◌, ◌-◌, ◌*◌, ◌≤◌, ◌++◌, vec_len, vec_capacity}
use Rattle.block_store.specs.Blocks.{run}
use Rattle.backed_store.specs.Stores.{contents}
use Rattle.backed_store.proofs.backed.BackedStore.read.Given as goal

-- the first blocks are behind what stood there
abbrev pub invariant-loop-done : goal.invariant-loop-done
invariant-loop-done l = record {
  within : l.done ≤ l.count;
  bytes : l.into.items ≡ l.fn.into.items ++ run (contents l.self) l.first l.done;
  len : vec_len l.into ≡ vec_len l.fn.into + 512 * l.done;
  room : vec_capacity l.fn.into ≤ vec_capacity l.into;
}

abbrev pub decreases-loop-done : goal.decreases-loop-done
decreases-loop-done l = l.count - l.done
