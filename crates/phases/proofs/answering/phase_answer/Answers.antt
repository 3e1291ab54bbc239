use Rattle.std.proofs.Common.{false}
use Rattle.std.specs.Prelude.{is_some}
use Rattle.phases.specs.Parts.{hand_of}
use Rattle.phases.specs.Inner.InMemory.{AnswersIn}
use Rattle.phases.proofs.Answered.{answers_own}
use Rattle.phases.proofs.Behind.{each_own}
use Rattle.phases.proofs.answering.phase_answer.Goals as goal

pub returns-clause-answers : goal.returns-clause-answers
returns-clause-answers c =
    let d = c.phase_answer_in in
    let h = hand_of c.args.hand.now in
    let h' = hand_of d.new.hand in
    let q = c.args.queue.now in
    answers_own h h' q d.new.queue c.args.memory.now d.new.memory d.new.memory (is_some d.result)
    (each_own c.args.memory.now d.new.memory
    (λ found left seen. AnswersIn false h q found (is_some d.result) d.new.queue left seen h') d.ensures.answers)
