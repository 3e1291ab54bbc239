use Rattle.backed_store.proofs.Progressing.{as-host}
use Rattle.backed_store.proofs.backed_disk.BackedDiskStore.write_blocks.Goals as goal

pub invariant_of-self : goal.invariant_of-self
invariant_of-self c = record { fenced = as-host _ _ _ _ c.put.ensures.host c.args.self.now.fenced }
