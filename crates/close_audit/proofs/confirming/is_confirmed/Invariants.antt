use Rattle.unit_model.specs.Unit.{PlainUnit}
use Rattle.close_audit.specs.Closed.{ConfirmsOne}
use Rattle.close_audit.proofs.Prefixes.{EachTo}
use Rattle.close_audit.proofs.confirming.is_confirmed.Given as goal

abbrev pub invariant-loop-unit : goal.invariant-loop-unit
invariant-loop-unit l = EachTo (λ (u : PlainUnit). ConfirmsOne u l.receipt → ⊥) l.units l.unit-index
