use Rattle.lock_scopes.proofs.Counting.{none_made, turns_none}
use Rattle.lock_scopes.proofs.joined_unit.leave_enter_on.Goals as goal

-- neither phase makes a Commit
pub unit-requires-clause-counts : goal.unit-requires-clause-counts
unit-requires-clause-counts g c = λ u v x x' y y' r o resident. none_made u v _ _ _ o.first_shows o.first_leaves (turns_none _ _ _ _ _ _ _ _ o.met.0) o.met.3
