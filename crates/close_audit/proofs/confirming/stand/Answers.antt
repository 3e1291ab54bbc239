use Rattle.unit_model.specs.Unit.{IsUnit}
use Rattle.close_audit.proofs.Prefixes.{each_more, each_all}
use Rattle.close_audit.proofs.confirming.stand.Goals as goal

pub loop-unit-preserved : goal.loop-unit-preserved
loop-unit-preserved c =
    each_more (λ u. IsUnit u) c.args.units.now c.loop-unit.unit-index c.unit-item.result c.loop-unit.invariant c.unit-item.is
    (record { lawful = c.stands.ensures.lawful; holds = c.stands.ensures.holds })

pub returns : goal.returns
returns c = each_all (λ u. IsUnit u) c.args.units.now c.loop-unit.unit-index c.loop-unit.invariant c.loop-unit-test.false
