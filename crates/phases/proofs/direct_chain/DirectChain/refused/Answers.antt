use Rattle.std.proofs.Common.{arith}
use Rattle.phases.proofs.Refusing.{answers_refusal}
use Rattle.phases.proofs.direct_chain.DirectChain.refused.Goals.{in-Full, in-Busy, in-Stale}
use Rattle.phases.proofs.direct_chain.DirectChain.refused.Goals as goal

pub invariant_of-result : goal.invariant_of-result
invariant_of-result c =
    let n = c.lengths-lengths in
    let made =
    answers_refusal c.args.job.chain c.into_chain.result n.result c.args.refusal c.match-refusal.answer
    c.into_chain.ensures n.ensures.readable n.ensures.writable
    (let room = n.ensures.room.room in omega (arith, room)) in
    elim c.match-refusal.branch [
      | in-Full w ↦
          made
          (rw (w.in-Full.is, w.answer-is) w.of_status-answer.ensures.bytes)
          (rw w.answer-is w.of_status-answer.ensures.len)
      | in-Busy w ↦
          made
          (rw (w.in-Busy.is, w.answer-is) w.of_status-answer-in-Busy.ensures.bytes)
          (rw w.answer-is w.of_status-answer-in-Busy.ensures.len)
      | in-Stale w ↦
          made
          (rw (w.in-Stale.is, w.answer-is) w.failed-answer.ensures.bytes)
          (rw w.answer-is w.failed-answer.ensures.len)
    ]
