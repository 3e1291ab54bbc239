use Rattle.std.proofs.Common.{sym, ap, ◌∙◌}
use Rattle.task_set.specs.Inner.Tasks.{seen_of}
use Rattle.unit_log.specs.Recorded.{Logged}
use Rattle.logical_unit.proofs.Basing.{clear_forgotten}
use Rattle.logical_unit.proofs.unit.forget_where_clear.Goals as goal

pub returns-then-not-is_met_before-clause-clear : goal.returns-then-not-is_met_before-clause-clear
returns-then-not-is_met_before-clause-clear c =
    clear_forgotten c.args.log.now.forgotten c.forget.new.self.forgotten c.in-Some.place c.args.log.now.steps (seen_of c.args.tasks.now)
    (ap (λ (l : Logged). l.forgotten) c.forget.ensures) c.in-Some.ensures
    (sym c.is_met_before.ensures ∙ c.if-not-is_met_before.true)
