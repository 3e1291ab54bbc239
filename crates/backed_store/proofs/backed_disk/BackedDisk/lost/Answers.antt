use Rattle.backed_store.proofs.Progressing.{lost-fenced, hosted-more}
use Rattle.backed_store.proofs.backed_disk.BackedDisk.lost.Goals as goal

pub invariant_of-self : goal.invariant_of-self
invariant_of-self c =
    record { fenced = lost-fenced c.lost.result _ _ _ _ c.args.page c.args.self.now.fenced c.lost.ensures.lost c.lost.ensures.otherwise c.lost.ensures.storage c.lost.ensures.owed c.lost.ensures.writing }

pub returns-clause-lost : goal.returns-clause-lost
returns-clause-lost c = λ is. hosted-more _ _ _ _ _ c.args.self.now.fenced.behind (c.lost.ensures.lost is)
