use Rattle.block_store.specs.Storage.{Dealing}
use Rattle.backed_store.proofs.Progressing.{denied-fenced, told-hosted}
use Rattle.backed_store.proofs.backed_disk.BackedDisk.denied.Goals as goal

pub invariant_of-self : goal.invariant_of-self
invariant_of-self c =
    let e = c.denied.ensures in
    record {
      fenced =
          denied-fenced c.denied.result _ _ _ _ c.args.page c.args.self.now.fenced e.told e.err e.storage e.over e.still e.unchanged e.dirty
          e.earlier e.unkept e.others e.owed;
    }

pub returns-clause-denied : goal.returns-clause-denied
returns-clause-denied c =
    told-hosted c.denied.result c.args.self.now.fence c.args.self.now.began.items c.args.self.now.store c.denied.new.self (Dealing.Deny c.args.page)
    c.args.self.now.fenced c.denied.ensures.told
