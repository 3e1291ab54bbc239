use Rattle.std.proofs.Common.{refl}
use Rattle.phases.proofs.Raised.{uses_with}
use Rattle.phases.proofs.Stored.{answer_stored}
use Rattle.phases.proofs.raising.use_with.Goals as goal

pub returns-clause-uses : goal.returns-clause-uses
returns-clause-uses g c =
    uses_with g.M.Memory.shared c.args.chain c.args.bytes.now c.args.queue.now c.complete_in-answered.new.self
    (g.M.Memory.may_be c.args.memory.now) (g.M.Memory.may_be c.scatter-len.new.memory)
    (g.M.Memory.may_be c.complete_in-answered.new.memory) c.scatter-len.result c.scatter-len.ensures.written
    c.scatter-len.ensures.memory c.complete_in-answered.ensures.seen c.complete_in-answered.ensures.queue

pub returns-clause-stores : goal.returns-clause-stores
returns-clause-stores g c =
    answer_stored g.M.Memory.storing g.met.M.Memory.both (g.M.Memory.stored c.args.memory.now) (g.M.Memory.stored c.scatter-len.new.memory)
    (g.M.Memory.stored c.complete_in-answered.new.memory) c.args.queue.now.ring c.args.chain c.args.chain c.args.bytes.now c.scatter-len.result
    c.scatter-len.ensures.stores refl c.scatter-len.ensures.written c.complete_in-answered.ensures.stores
