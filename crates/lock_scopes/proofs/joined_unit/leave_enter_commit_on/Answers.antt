use Rattle.std.proofs.Common.{ap, ◌∙◌}
use Rattle.unit_model.specs.Unit.{is_backed}
use Rattle.lock_scopes.proofs.Counting.{some_made, turns_count}
use Rattle.lock_scopes.proofs.joined_unit.leave_enter_commit_on.Goals as goal

-- the last phase makes a Commit, where it leaves a receipt
pub unit-next-requires-clause-counts : goal.unit-next-requires-clause-counts
unit-next-requires-clause-counts g c = λ u v x x' y y' r o resident. some_made u v _ _ _ _ o.first_shows o.first_leaves
    (turns_count _ _ _ _ _ _ _ _ _ _ o.met.0 (ap is_backed o.first_shows ∙ resident)) o.met.3
