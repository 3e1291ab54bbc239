use Rattle.backed_store.proofs.Progressing.{gave-fenced, gave-hosted, gave-now}
use Rattle.backed_store.proofs.backed_disk.BackedDisk.give.Goals as goal

pub invariant_of-self : goal.invariant_of-self
invariant_of-self c =
    let e = c.give.ensures in
    record {
      fenced =
          gave-fenced c.give.result _ _ _ _ c.args.self.now.fenced e.alone e.others e.still e.unchanged e.given e.taken e.untaken e.refused
          e.kept e.owed;
    }

pub returns-clause-given : goal.returns-clause-given
returns-clause-given c = gave-hosted c.give.result c.args.self.now.fence c.args.self.now.began.items c.args.self.now.store c.give.new.self c.args.self.now.fenced c.give.ensures.taken

pub returns-clause-now : goal.returns-clause-now
returns-clause-now c = gave-now c.give.result c.args.self.now.store c.give.new.self c.give.ensures.given
