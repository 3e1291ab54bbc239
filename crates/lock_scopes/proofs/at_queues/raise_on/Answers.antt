use Rattle.lock_scopes.proofs.Chains.{lent_none, raises_none}
use Rattle.lock_scopes.proofs.at_queues.raise_on.Goals as goal

-- the phase takes no chain of a request queue
pub queue-requires-clause-takes_none : goal.queue-requires-clause-takes_none
queue-requires-clause-takes_none g c = λ q r m n x x' y y' a o. lent_none q r _ _ o.first_shows o.first_leaves (raises_none o.fourth.now o.first.now o.second.now o.third.now a o.first_left.now o.second_left.now o.third_left.now o.fourth_left.now o.met.0)
