use Rattle.std.proofs.Common.{sym, arith, ◌-◌}
use Rattle.std.proofs.lemmas.Option.{slice_get-get_or}
use Rattle.config.proofs.Faults.{none_falls, falling, stays}
use Rattle.config.proofs.config_fault.first_fall.Goals as goal

pub returns-then-not-stands_above-clause-none : goal.returns-then-not-stands_above-clause-none
returns-then-not-stands_above-clause-none c =
    let unit_index = c.loop-unit_index.unit_index in let least = c.loop-unit_index.auto.unit_index in let within = c.loop-unit_index-test.true in
    falling c.args.units.now unit_index _ _ (omega (arith, least)) (slice_get-get_or c.args.units.now (unit_index - 1) _ (omega (arith, least, within))) (slice_get-get_or c.args.units.now unit_index _ within) (sym c.if-not-stands_above.ensures)

pub returns-then-not-stands_above-clause-cause : goal.returns-then-not-stands_above-clause-cause
returns-then-not-stands_above-clause-cause c =
    let unit_index = c.loop-unit_index.unit_index in let least = c.loop-unit_index.auto.unit_index in let within = c.loop-unit_index-test.true in
    record {
      behind = omega (arith, least);
      earlier = c.loop-unit_index.invariant;
      before = _;
      here = _;
      before_at = slice_get-get_or c.args.units.now (unit_index - 1) _ (omega (arith, least, within));
      here_at = slice_get-get_or c.args.units.now unit_index _ within;
      falls = sym c.if-not-stands_above.ensures;
    }

pub loop-unit_index-preserved : goal.loop-unit_index-preserved
loop-unit_index-preserved c =
    let unit_index = c.loop-unit_index.unit_index in let least = c.loop-unit_index.auto.unit_index in let within = c.loop-unit_index-test.true in
    stays c.args.units.now unit_index _ _ c.loop-unit_index.invariant (slice_get-get_or c.args.units.now (unit_index - 1) _ (omega (arith, least, within))) (slice_get-get_or c.args.units.now unit_index _ within) (sym c.if-not-stands_above.ensures)

pub returns-clause-none : goal.returns-clause-none
returns-clause-none c = let past = c.loop-unit_index-test.false in none_falls c.args.units.now c.loop-unit_index.unit_index c.loop-unit_index.invariant (omega (arith, past))
