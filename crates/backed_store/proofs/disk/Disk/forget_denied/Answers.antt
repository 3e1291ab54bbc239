use Rattle.backed_store.proofs.Progressing.{as-host}
use Rattle.backed_store.proofs.disk.Disk.forget_denied.Goals as goal

pub invariant_of-disk : goal.invariant_of-disk
invariant_of-disk c = record { fenced = as-host _ _ _ _ c.forget_denied.ensures.host c.in-Backed.disk.fenced }
