use Rattle.std.proofs.Common.{rules}
use Rattle.lock_scopes.proofs.Weights.{found, resize_made, resize_resident, resize_weighs}
use Rattle.lock_scopes.proofs.counted.CountedUnit.resize.Goals as goal

-- the act that was weighed is the step that the unit took
pub invariant_of-self-then-was_resized : goal.invariant_of-self-then-was_resized
invariant_of-self-then-was_resized g c =
    let there = found _ _ _ _ c.as_slice.ensures.addresses c.in-Some.ensures.lookup.3.0 c.in-Some.ensures.lookup.1 in
    record {
      counted = search rules;
      resident = resize_resident c.args.inventory.now c.args.at c.args.self.now.unit c.phase_resize-done.new.unit _ _ _ _ _ c.if-was_resized.true c.in_ok-was_resized.ensures c.args.self.now.resident;
      acted = resize_weighs g.C.Weighing.weight c.args.inventory.now c.args.at c.args.self.now.unit c.phase_resize-done.new.unit _ _ _ _ _ _ _ _ there c.if-was_resized.true c.in_ok-was_resized.ensures c.args.self.now.acted c.add.ensures.unit;
    }

pub returns-then-was_resized-clause-made : goal.returns-then-was_resized-clause-made
returns-then-was_resized-clause-made g c =
    let named = found _ _ _ _ c.as_slice.ensures.addresses c.in-Some.ensures.lookup.3.0 c.in-Some.ensures.lookup.1 in
    resize_made c.args.inventory.now c.args.at _ _ _ _ _ _ named c.if-was_resized.true c.add.ensures.acts
