use Rattle.std.proofs.Common.{false}
use Rattle.std.specs.Prelude.{is_some}
use Rattle.phases.specs.Slots.{slot_of}
use Rattle.phases.specs.Inner.InMemory.{DirectsIn}
use Rattle.phases.proofs.Behind.{each_own}
use Rattle.phases.proofs.Directed.{directs_own}
use Rattle.phases.proofs.direct.phase_direct.Goals as goal

pub returns-clause-directs : goal.returns-clause-directs
returns-clause-directs c =
    let d = c.phase_direct_in in
    let s = slot_of c.args.slot.now in
    let s' = slot_of d.new.slot in
    let q = c.args.queue.now in
    directs_own s s' q d.new.queue c.args.memory.now d.new.memory d.new.memory (is_some d.result)
    (each_own c.args.memory.now d.new.memory
    (λ found left seen. DirectsIn false s q found (is_some d.result) d.new.queue left seen s') d.ensures.directs)
