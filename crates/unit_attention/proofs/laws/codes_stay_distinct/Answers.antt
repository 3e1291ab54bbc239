use Rattle.unit_attention.proofs.Distinct.{at_most_four, raised-pending}
use Rattle.unit_attention.proofs.laws.codes_stay_distinct.Goals as goal

pub returns-clause-raised : goal.returns-clause-raised
returns-clause-raised c = raised-pending

pub returns-clause-at_most_four : goal.returns-clause-at_most_four
returns-clause-at_most_four c = at_most_four
