use Rattle.unit_model.proofs.Base.{kept_few, before_few}
use Rattle.unit_model.proofs.laws.base.few_steps_are_kept.Goals as goal

pub returns-clause-before : goal.returns-clause-before
returns-clause-before c = before_few

pub returns-clause-kept : goal.returns-clause-kept
returns-clause-kept c = kept_few
