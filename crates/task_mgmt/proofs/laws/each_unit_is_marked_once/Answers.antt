use Rattle.task_mgmt.specs.Functions.{opened}
use Rattle.task_mgmt.proofs.Visits.{marked_left, marked_units, marked_places}
use Rattle.task_mgmt.proofs.laws.each_unit_is_marked_once.Goals as goal

pub returns-clause-none_left : goal.returns-clause-none_left
returns-clause-none_left c kind units places e = marked_left places (opened kind units) e

pub returns-clause-units : goal.returns-clause-units
returns-clause-units c kind units places e = marked_units places (opened kind units) e

pub returns-clause-places : goal.returns-clause-places
returns-clause-places c kind units places e = marked_places places (opened kind units)
