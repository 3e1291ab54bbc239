use Rattle.std.proofs.Common.{◌-◌, List, length}
use Rattle.unit_model.specs.Steps.{Step}
use Rattle.unit_model.specs.Base.{base_of}
use Rattle.unit_model.specs.Contents.{Opening}
use Rattle.unit_model.specs.Lawful.{IsLawful}
use Rattle.unit_model.proofs.Base.{joined_again, folded_count, lawful_before, base_grows}
use Rattle.unit_model.proofs.laws.base.folded_and_kept_are_the_history.Goals as goal

pub returns-clause-whole : goal.returns-clause-whole
returns-clause-whole c = joined_again

pub returns-clause-count : goal.returns-clause-count
returns-clause-count c = folded_count

pub returns-clause-lawful : goal.returns-clause-lawful
returns-clause-lawful c = λ (o : Opening) (h : List Step) (l : IsLawful o h). lawful_before o (length h - base_of h) h l

pub returns-clause-grows : goal.returns-clause-grows
returns-clause-grows c = base_grows
