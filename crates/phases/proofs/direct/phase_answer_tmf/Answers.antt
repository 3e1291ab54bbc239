use Rattle.std.proofs.Common.{false}
use Rattle.phases.specs.Inner.InMemory.{RespondsIn}
use Rattle.phases.proofs.Behind.{each_own}
use Rattle.phases.proofs.Directed.{responds_own}
use Rattle.phases.proofs.direct.phase_answer_tmf.Goals as goal

pub returns-clause-responds : goal.returns-clause-responds
returns-clause-responds c =
    let d = c.phase_answer_tmf_in in
    let f = c.args.function.now in
    let q = c.args.queue.now in
    responds_own f d.new.function q d.new.queue c.args.memory.now d.new.memory d.new.memory d.result
    (each_own c.args.memory.now d.new.memory
    (λ found left seen. RespondsIn false f q found d.result d.new.queue left seen d.new.function) d.ensures.responds)
