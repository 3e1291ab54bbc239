use Rattle.unit_model.proofs.Waiting.{clear_is, clear_none}
use Rattle.unit_model.proofs.laws.marks.places_are_clear_where_no_earlier_task_is_met.Goals as goal

pub returns-clause-met : goal.returns-clause-met
returns-clause-met c = clear_is

pub returns-clause-none : goal.returns-clause-none
returns-clause-none c = clear_none
