use Rattle.lock_scopes.proofs.Chains.{answers_none, keeps_on}
use Rattle.lock_scopes.proofs.kept_queue.KeptQueue.answer.Goals as goal

-- the phase takes no chain
pub invariant_of-self : goal.invariant_of-self
invariant_of-self c =
    record { keeps = keeps_on _ _ _ _ c.args.self.now.keeps (answers_none _ _ _ _ _ _ _ c.phase_answer-given.ensures.answers); noted = c.args.self.now.noted }
