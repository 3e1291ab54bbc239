-- A backed store with its latest flush.
use Rattle.block_store.specs.Progress.{Progress}
use Rattle.block_store.specs.Inner.Hosted.{Hosted}
use Rattle.backed_store.specs.Stores.{ledger_of}
use Rattle.backed_store.specs.Fences.{progress_by, hosted_by}
use Rattle.backed_store.specs.declared.backed_disk.BackedDisk.{BackedDisk}

-- how far the latest flush is
abbrev pub progress_of : BackedDisk → Progress
progress_of d = progress_by d.fence d.began.items (ledger_of d.store)

-- and what was done of the storage
abbrev pub hosted_of : BackedDisk → Hosted
hosted_of d = hosted_by d.fence d.began.items (ledger_of d.store)
