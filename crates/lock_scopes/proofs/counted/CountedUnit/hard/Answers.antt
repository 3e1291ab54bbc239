use Rattle.std.proofs.Common.{rules}
use Rattle.lock_scopes.proofs.Weights.{found, reset_made, reset_resident, reset_weighs}
use Rattle.lock_scopes.proofs.counted.CountedUnit.hard.Goals as goal

-- the act that was weighed is the step that the unit took
pub invariant_of-self-then-was_reset : goal.invariant_of-self-then-was_reset
invariant_of-self-then-was_reset g c =
    let there = found _ _ _ _ c.as_slice.ensures.addresses c.in-Some.ensures.lookup.3.0 c.in-Some.ensures.lookup.1 in
    record {
      counted = search rules;
      resident = reset_resident c.args.inventory.now c.args.at c.args.self.now.unit c.phase_hard-done.new.unit _ _ _ _ _ c.if-was_reset.true c.in_ok-was_reset.ensures c.args.self.now.resident;
      acted = reset_weighs g.C.Weighing.weight c.args.inventory.now c.args.at c.args.self.now.unit c.phase_hard-done.new.unit _ _ _ _ _ _ _ _ there c.if-was_reset.true c.in_ok-was_reset.ensures c.args.self.now.acted c.add.ensures.unit;
    }

pub returns-then-was_reset-clause-made : goal.returns-then-was_reset-clause-made
returns-then-was_reset-clause-made g c =
    let named = found _ _ _ _ c.as_slice.ensures.addresses c.in-Some.ensures.lookup.3.0 c.in-Some.ensures.lookup.1 in
    reset_made c.args.inventory.now c.args.at _ _ _ _ named c.if-was_reset.true c.add.ensures.acts
