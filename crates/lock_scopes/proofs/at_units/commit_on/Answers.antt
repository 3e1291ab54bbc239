use Rattle.std.proofs.Common.{ap, ◌∙◌}
use Rattle.unit_model.specs.Unit.{is_backed}
use Rattle.lock_scopes.proofs.Counting.{some_made, commit_counts}
use Rattle.lock_scopes.proofs.at_units.commit_on.Goals as goal

-- the phase makes a Commit, where it leaves a receipt
pub unit-changed-requires-clause-counts : goal.unit-changed-requires-clause-counts
unit-changed-requires-clause-counts g c = λ u v x x' y y' r o resident. some_made u v _ _ _ _ o.first_shows o.first_leaves
    (commit_counts _ _ _ _ _ o.met.0 o.met.1 (ap is_backed o.first_shows ∙ resident)) o.met.2
