use Rattle.unit_model.proofs.Marking.{marked_never_runs, done_never_marked}
use Rattle.unit_model.proofs.laws.marks.marked_commands_never_run.Goals as goal

pub returns-clause-never : goal.returns-clause-never
returns-clause-never c = marked_never_runs

pub returns-clause-never_after : goal.returns-clause-never_after
returns-clause-never_after c = done_never_marked
