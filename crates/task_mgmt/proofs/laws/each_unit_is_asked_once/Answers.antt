use Rattle.std.proofs.Common.{false, ◌||◌, refl, ◌∙◌, Bool, true, ◌≡◌}
use Rattle.std.specs.List.{list_any}
use Rattle.task_mgmt.specs.Functions.{opened}
use Rattle.task_mgmt.proofs.Visits.{asked_left, asked_units, asked_over, asked_found}
use Rattle.task_mgmt.proofs.laws.each_unit_is_asked_once.Goals as goal

pub returns-clause-none_left : goal.returns-clause-none_left
returns-clause-none_left c kind units looks e = asked_left looks (opened kind units) e

pub returns-clause-units : goal.returns-clause-units
returns-clause-units c kind units looks e = asked_units looks (opened kind units) e

pub returns-clause-over : goal.returns-clause-over
returns-clause-over c kind units looks n e = asked_over looks (opened kind units) n e refl

or_false : (b : Bool) → (b || false) ≡ b
or_false true = refl
or_false false = refl

pub returns-clause-found : goal.returns-clause-found
returns-clause-found c kind units looks = asked_found looks (opened kind units) ∙ or_false (list_any (λ look. look) looks)
