use Rattle.lock_scopes.proofs.Chains.{lent_none, responds_none}
use Rattle.lock_scopes.proofs.at_queues.answer_tmf_on.Goals as goal

-- the phase takes no chain of a request queue
pub queue-requires-clause-takes_none : goal.queue-requires-clause-takes_none
queue-requires-clause-takes_none g c = λ q r m n x x' y y' a o. lent_none q r _ _ o.first_shows o.first_leaves (responds_none o.third.now o.first.now o.second.now a o.first_left.now o.second_left.now o.third_left.now o.met.0)
