use Rattle.lock_scopes.proofs.Chains.{lent_none, control_none}
use Rattle.lock_scopes.proofs.at_queues.fetch_control_on.Goals as goal

-- the phase takes no chain of a request queue
pub queue-requires-clause-takes_none : goal.queue-requires-clause-takes_none
queue-requires-clause-takes_none g c = λ q r m n x x' y y' a o. lent_none q r _ _ o.first_shows o.first_leaves (control_none _ _ _ _ _ _ _ _ _ o.met.0)
