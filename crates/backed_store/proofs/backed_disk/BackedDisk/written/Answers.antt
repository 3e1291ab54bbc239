use Rattle.block_store.specs.Storage.{Dealing}
use Rattle.backed_store.proofs.Progressing.{wrote-fenced, told-hosted}
use Rattle.backed_store.proofs.backed_disk.BackedDisk.written.Goals as goal

pub invariant_of-self : goal.invariant_of-self
invariant_of-self c =
    let e = c.written.ensures in
    record {
      fenced =
          wrote-fenced c.written.result c.args.kept _ _ _ _ c.args.page c.args.self.now.fenced e.given e.kept e.told e.storage e.err e.over
          e.still e.unchanged e.again e.later e.failed e.earlier e.unkept e.others e.owed;
    }

pub returns-clause-kept : goal.returns-clause-kept
returns-clause-kept c = told-hosted c.written.result c.args.self.now.fence c.args.self.now.began.items c.args.self.now.store c.written.new.self (Dealing.Keep c.args.page) c.args.self.now.fenced c.written.ensures.storage
