use Rattle.block_store.specs.Storage.{Dealing}
use Rattle.backed_store.proofs.Progressing.{loaded-fenced, told-hosted}
use Rattle.backed_store.proofs.backed_disk.BackedDisk.load.Goals as goal

pub invariant_of-self : goal.invariant_of-self
invariant_of-self c =
    let e = c.load.ensures in
    record { fenced = loaded-fenced c.load.result _ _ _ _ c.args.page c.args.self.now.fenced e.told e.err e.storage e.owed e.writing }

pub returns-clause-loaded : goal.returns-clause-loaded
returns-clause-loaded c =
    told-hosted c.load.result c.args.self.now.fence c.args.self.now.began.items c.args.self.now.store c.load.new.self (Dealing.Load c.args.page)
    c.args.self.now.fenced c.load.ensures.told
