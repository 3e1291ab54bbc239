use Rattle.unit_model.specs.Endings.{answer_of}
use Rattle.logical_unit.specs.Endings.{ending_of}
use Rattle.device_model.specs.Parts.{lengths_of}
use Rattle.phases.proofs.Answered.{answers_job}
use Rattle.phases.proofs.Stored.{answer_stored}
use Rattle.phases.proofs.serving.answer_job.Goals as goal

pub returns-clause-answers : goal.returns-clause-answers
returns-clause-answers g c =
    answers_job g.M.Memory.shared c.args.job (ending_of c.args.outcome.now) c.args.queue.now c.complete_in.new.self
    (g.M.Memory.may_be c.args.memory.now) (g.M.Memory.may_be c.write_job-len.new.memory)
    (g.M.Memory.may_be c.complete_in.new.memory) c.write_job-len.result c.into_chain.result c.write_job-len.ensures.written
    c.into_chain.ensures c.complete_in.ensures.seen c.complete_in.ensures.queue

pub returns-clause-stores : goal.returns-clause-stores
returns-clause-stores g c =
    let x = c.args.job in
    answer_stored g.M.Memory.storing g.met.M.Memory.both (g.M.Memory.stored c.args.memory.now)
    (g.M.Memory.stored c.write_job-len.new.memory) (g.M.Memory.stored c.complete_in.new.memory) c.args.queue.now.ring x.chain
    c.into_chain.result (answer_of (lengths_of x.chain) (ending_of c.args.outcome.now)) c.write_job-len.result
    c.write_job-len.ensures.stores c.into_chain.ensures c.write_job-len.ensures.written.written c.complete_in.ensures.stores
