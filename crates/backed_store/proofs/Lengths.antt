-- How many bytes some blocks of a disk have.
use Rattle.std.proofs.Common.{◌≡◌, ℕ, ◌*◌, length}
use Rattle.block_store.specs.Blocks.{run}
use Rattle.block_store.proofs.Runs.{length-run}
use Rattle.backed_store.specs.Disks.{blocks_of, length-block}
use Rattle.backed_store.specs.declared.disk.Disk.{Disk}

pub length-some : (d : Disk) (first count : ℕ) → length (run (blocks_of d) first count) ≡ 512 * count
length-some d first count = length-run (blocks_of d) first count (λ b reaches short. length-block d b)
