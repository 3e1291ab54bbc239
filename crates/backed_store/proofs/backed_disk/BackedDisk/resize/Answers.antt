use Rattle.backed_store.proofs.Progressing.{cut-off, hosted-more}
use Rattle.backed_store.proofs.backed_disk.BackedDisk.resize.Goals as goal

pub invariant_of-self : goal.invariant_of-self
invariant_of-self c =
    let e = c.resize.ensures in
    record { fenced = cut-off _ _ _ _ _ e.storage e.marks e.given e.backing c.args.self.now.fenced }

pub returns-clause-storage : goal.returns-clause-storage
returns-clause-storage c = hosted-more _ _ _ _ _ c.args.self.now.fenced.behind c.resize.ensures.storage
