use Rattle.std.proofs.Common.{◌∙◌, ap, sym, inl, inr, false}
use Rattle.phases.proofs.Answered.{answered, answered_away, answered_later, answered_none, answered_before}
use Rattle.phases.specs.Parts.{hand_of}
use Rattle.phases.specs.Inner.Stored.{answered_writes}
use Rattle.phases.proofs.Stored.{not_answered, none_stored, job_stored}
use Rattle.phases.proofs.answering.phase_answer_in.Goals as goal

pub returns-then-not-is_over-clause-answers : goal.returns-then-not-is_over-clause-answers
returns-then-not-is_over-clause-answers g c =
    let held = c.in-Job.held in
    rw c.in-Job.is
    (answered_later g.M.Memory.shared held.job held.outcome c.args.queue.now (g.M.Memory.may_be c.args.memory.now)
    (sym c.is_over.ensures ∙ c.if-not-is_over.true))

pub returns-in-Empty-clause-answers : goal.returns-in-Empty-clause-answers
returns-in-Empty-clause-answers g c =
    let q = c.args.queue.now in
    let may = g.M.Memory.may_be c.args.memory.now in
    elim c.in-Empty.is [
      | inl empty ↦ rw empty (answered_none g.M.Memory.shared q may)
      | inr before ↦ rw before.2 (answered_before g.M.Memory.shared before.0 before.1 q may)
    ]

pub returns-in-Some-clause-answers : goal.returns-in-Some-clause-answers
returns-in-Some-clause-answers g c =
    let held = c.in-Job.held in
    let owned = c.in-Some.ensures.owned in
    rw c.in-Job.is
    (answered g.M.Memory.shared held.job held.outcome c.args.queue.now c.complete_in-answered.new.self
    (g.M.Memory.may_be c.args.memory.now) (g.M.Memory.may_be c.write_held-written.new.memory)
    (g.M.Memory.may_be c.complete_in-answered.new.memory) c.in-Some.len c.take_job-unit.result.1
    c.take_job-unit.result.0 c.complete_in-answered.result (sym c.is_over.ensures ∙ c.if-not-is_over.false)
    owned.2 c.take_job-unit.ensures.job c.complete_in-answered.ensures.ticket c.complete_in-answered.ensures.seen
    c.complete_in-answered.ensures.queue)

pub returns-in-None-clause-answers : goal.returns-in-None-clause-answers
returns-in-None-clause-answers g c =
    let held = c.in-Job.held in
    let owned = c.in-None.ensures.owned in
    rw (c.in-Job.is, owned.1, c.take_job-unit.ensures.hand)
    (answered_away g.M.Memory.shared held.job held.outcome c.args.queue.now (g.M.Memory.may_be c.args.memory.now)
    (sym c.is_over.ensures ∙ c.if-not-is_over.false) owned.0)

pub returns-then-not-is_over-clause-stores : goal.returns-then-not-is_over-clause-stores
returns-then-not-is_over-clause-stores g c =
    let h = hand_of c.args.hand.now in
    let r = c.args.queue.now.ring in
    none_stored g.M.Memory.storing g.met.M.Memory.none (g.M.Memory.stored c.args.memory.now) (answered_writes h r false) (not_answered h r)

pub returns-in-Empty-clause-stores : goal.returns-in-Empty-clause-stores
returns-in-Empty-clause-stores g c =
    let h = hand_of c.args.hand.now in
    let r = c.args.queue.now.ring in
    none_stored g.M.Memory.storing g.met.M.Memory.none (g.M.Memory.stored c.args.memory.now) (answered_writes h r false) (not_answered h r)

pub returns-in-Some-clause-stores : goal.returns-in-Some-clause-stores
returns-in-Some-clause-stores g c =
    let held = c.in-Job.held in
    rw c.in-Job.is
    (job_stored g.M.Memory.storing g.met.M.Memory.both (g.M.Memory.stored c.args.memory.now) (g.M.Memory.stored c.write_held-written.new.memory)
    (g.M.Memory.stored c.complete_in-answered.new.memory) c.args.queue.now.ring held.job held.outcome
    (g.M.Memory.may_be c.args.memory.now) (g.M.Memory.may_be c.write_held-written.new.memory) c.take_job-unit.result.1
    c.take_job-unit.result.0 c.in-Some.len (sym c.is_over.ensures ∙ c.if-not-is_over.false) c.in-Some.ensures.stores
    c.in-Some.ensures.owned.2 c.take_job-unit.ensures.job c.complete_in-answered.ensures.stores)

pub returns-in-None-clause-stores : goal.returns-in-None-clause-stores
returns-in-None-clause-stores g c =
    let h = hand_of c.args.hand.now in
    let r = c.args.queue.now.ring in
    ap g.M.Memory.stored c.in-None.ensures.owned.1
    ∙ none_stored g.M.Memory.storing g.met.M.Memory.none (g.M.Memory.stored c.args.memory.now) (answered_writes h r false) (not_answered h r)
