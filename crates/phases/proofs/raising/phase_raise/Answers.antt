use Rattle.std.proofs.Common.{false}
use Rattle.phases.specs.Inner.EventsInMemory.{RaisesNextIn}
use Rattle.phases.proofs.Behind.{each_own}
use Rattle.phases.proofs.EventsOwn.{raises_own}
use Rattle.phases.proofs.raising.phase_raise.Goals as goal

pub returns-clause-raises : goal.returns-clause-raises
returns-clause-raises c =
    let d = c.phase_raise_in in
    raises_own c.args.waiting.now c.args.queue.now d.new.queue c.args.memory.now d.new.memory d.new.memory c.args.port.now d.new.port
    d.result d.new.waiting
    (each_own c.args.memory.now d.new.memory
    (λ found left seen. RaisesNextIn false c.args.waiting.now c.args.queue.now found c.args.port.now d.result d.new.queue left seen
    d.new.port d.new.waiting)
    d.ensures.raises)
