use Rattle.phases.specs.Slots.{slot_of}
use Rattle.phases.proofs.AtOnce.{served_alone}
use Rattle.phases.proofs.serving.serve_request.Goals as goal

pub returns-in-Some-clause-serves : goal.returns-in-Some-clause-serves
returns-in-Some-clause-serves g c =
    served_alone g.M.Memory.storing g.met.M.Memory.both (g.M.Memory.stored c.args.memory.now)
    (g.M.Memory.stored c.serve_alone.new.memory) (g.M.Memory.stored c.complete_in.new.memory) g.M.Memory.shared c.args.arrival c.args.unit.now c.serve_alone.new.unit c.args.queue.now c.complete_in.new.self
    (g.M.Memory.may_be c.args.memory.now) (g.M.Memory.may_be c.serve_alone.new.memory)
    (g.M.Memory.may_be c.complete_in.new.memory) c.in-Some.len c.into_chain.result (slot_of c.args.slot.now) c.args.out.now
    c.in-Some.ensures.serves c.into_chain.ensures c.complete_in.ensures.seen c.complete_in.ensures.queue
    c.complete_in.ensures.stores

pub returns-in-None-clause-serves : goal.returns-in-None-clause-serves
returns-in-None-clause-serves g c =
    rw (c.in-None.ensures.same.0, c.in-None.ensures.same.1) at c.serve_by_steps.ensures.serves
