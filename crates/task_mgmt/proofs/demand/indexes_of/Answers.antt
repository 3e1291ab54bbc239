use Rattle.std.proofs.Common.{◌≤◌, length, ℕ, lit<, arith, ap, ◌∙◌}
use Rattle.arrayvec.specs.ArrayVec.{ArrayVec}
use Rattle.task_mgmt.proofs.Places.{found_one, found_none, places_few}
use Rattle.task_mgmt.proofs.demand.indexes_of.Goals as goal

pub push-requires : goal.push-requires
push-requires c =
    let few : length c.loop-unit_index.indexes.items ≤ c.loop-unit_index.unit_index = rw c.loop-unit_index.invariant (places_few c.args.units.now c.args.target c.loop-unit_index.unit_index) in
    (lit< tt, omega (arith, few))

pub loop-unit_index-preserved : goal.loop-unit_index-preserved
loop-unit_index-preserved c = elim c.if-units-unit_index.branch [
  | goal.then-units-unit_index w ↦ ap (λ (v : ArrayVec ℕ). v.items) w.indexes-is ∙ w.push.ensures.items ∙ found_one c.args.units.now c.args.target c.loop-unit_index.unit_index _ _ c.loop-unit_index-test.true c.loop-unit_index.invariant w.if-units-unit_index.true
  | goal.else-units-unit_index w ↦ ap (λ (v : ArrayVec ℕ). v.items) w.indexes-is ∙ found_none c.args.units.now c.args.target c.loop-unit_index.unit_index _ _ c.loop-unit_index-test.true c.loop-unit_index.invariant w.if-units-unit_index.false
]
