use Rattle.lock_scopes.proofs.Chains.{take_kept}
use Rattle.lock_scopes.proofs.kept_queue.KeptQueue.take.Goals as goal

-- what the fetch left is recorded, and the note of its answer is there
pub invariant_of-self-2 : goal.invariant_of-self-2
invariant_of-self-2 c =
    let kept = take_kept _ _ _ _ _ _ _ _ _ _ _ _ _ _ _ _ _ _ _ _ c.requires.empty c.args.self.now.keeps c.args.self.now.noted c.phase_fetch-outcome.ensures c.answer_decided-answered.ensures.directs c.record_fetch.ensures c.in-Ok.ensures.items c.answer_decided-answered.ensures.notes c.is_direct-is_direct.ensures c.is_some.ensures c.note_lost.ensures in
    record { keeps = kept.0; noted = kept.1 }
