use Rattle.std.proofs.Common.{rules, refl, arith, sym, ◌∙◌}
use Rattle.lock_scopes.proofs.Counting.{fewer_commits}
use Rattle.lock_scopes.proofs.Weights.{keeps_weight}
use Rattle.lock_scopes.proofs.counted.CountedUnit.run.Goals as goal

-- the unit has one left for each of its Commits
pub transfer-requires-clause-has_amount : goal.transfer-requires-clause-has_amount
transfer-requires-clause-has_amount g c =
    let made = c.requires.counts _ _ _ _ _ _ _ (record { first = _; second = _; third = _; first_shows = refl; second_shows = refl; third_shows = refl; first_left = _; second_left = _; third_left = _; met = c.phase-answer.ensures; first_leaves = refl; second_leaves = refl; third_leaves = refl }) c.args.self.now.resident in
    omega (arith, c.args.self.now.counted, made.0, fewer_commits _ _ c.steps-steps.ensures)

-- the phase says how many Commits it made, and is no act of the operator
pub invariant_of-self : goal.invariant_of-self
invariant_of-self g c =
    let made = c.requires.counts _ _ _ _ _ _ _ (record { first = _; second = _; third = _; first_shows = refl; second_shows = refl; third_shows = refl; first_left = _; second_left = _; third_left = _; met = c.phase-answer.ensures; first_leaves = refl; second_leaves = refl; third_leaves = refl }) c.args.self.now.resident in
    record { resident = made.1.2 ∙ c.args.self.now.resident; counted = omega (arith, c.transfer.ensures.amount_left, c.args.self.now.counted, made.0); acted = c.args.self.now.acted ∙ sym (keeps_weight g.C.Weighing.weight c.args.self.now.unit c.phase-answer.new.arg2 made.1) }

-- and the unit's disk is as it was
pub returns-clause-did : goal.returns-clause-did
returns-clause-did g c =
    let made = c.requires.counts _ _ _ _ _ _ _ (record { first = _; second = _; third = _; first_shows = refl; second_shows = refl; third_shows = refl; first_left = _; second_left = _; third_left = _; met = c.phase-answer.ensures; first_leaves = refl; second_leaves = refl; third_leaves = refl }) c.args.self.now.resident in (
      c.args.self.now.unit,
      c.phase-answer.new.arg2,
      record { stands = search rules; resident = c.args.self.now.resident },
      record { first = _; second = _; third = _; first_shows = refl; second_shows = refl; third_shows = refl; first_left = _; second_left = _; third_left = _; met = c.phase-answer.ensures; first_leaves = refl; second_leaves = refl; third_leaves = refl },
      record { stands = search rules; resident = made.1.2 ∙ c.args.self.now.resident },
    )
