use Rattle.c_calls.proofs.Serve.{unchanged}
use Rattle.c_calls.proofs.disks.save_blocks.Goals as goal

pub returns-then-not-may_read-clause-same : goal.returns-then-not-may_read-clause-same
returns-then-not-may_read-clause-same c =
    unchanged c.args.store.now c.may_read.new.store c.may_read.ensures.blocks c.may_read.ensures.size c.may_read.ensures.storage

pub returns-in_default-clause-same : goal.returns-in_default-clause-same
returns-in_default-clause-same c =
    unchanged c.args.store.now c.may_read.new.store c.may_read.ensures.blocks c.may_read.ensures.size c.may_read.ensures.storage

pub returns-clause-same : goal.returns-clause-same
returns-clause-same c =
    unchanged c.args.store.now c.may_read.new.store c.may_read.ensures.blocks c.may_read.ensures.size c.may_read.ensures.storage
