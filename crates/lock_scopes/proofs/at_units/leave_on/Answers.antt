use Rattle.lock_scopes.proofs.Counting.{none_made, leaves_none}
use Rattle.lock_scopes.proofs.at_units.leave_on.Goals as goal

-- the phase makes no Commit
pub unit-requires-clause-counts : goal.unit-requires-clause-counts
unit-requires-clause-counts g c = λ u v x x' y y' r o resident. none_made u v _ _ _ o.first_shows o.first_leaves (leaves_none _ _ _ _ _ _ _ o.met.0) o.met.1
