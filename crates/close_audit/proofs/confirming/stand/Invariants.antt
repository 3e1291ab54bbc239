use Rattle.unit_model.specs.Unit.{IsUnit}
use Rattle.close_audit.proofs.Prefixes.{EachTo}
use Rattle.close_audit.proofs.confirming.stand.Given as goal

abbrev pub invariant-loop-unit : goal.invariant-loop-unit
invariant-loop-unit l = EachTo (λ u. IsUnit u) l.units l.unit-index
