use Rattle.std.proofs.Common.{inl, sym, subst, ◌∙◌}
use Rattle.logical_unit.specs.Calls.{Commits}
use Rattle.logical_unit.proofs.Through.{runs_at_once, once_unwell, once_through}
use Rattle.logical_unit.proofs.unit.UnitState.commit_through.Goals as goal

pub returns-then-not-ends_well-clause-step : goal.returns-then-not-ends_well-clause-step
returns-then-not-ends_well-clause-step c =
    inl
    (runs_at_once c.args.self.now c.args.job.now c.in_ok-outcome.outcome c.run_ready.new.self c.in_ok-outcome.ensures.step
    (c.has_ended_well.ensures.no c.if-has_ended_well.false)
    (λ e r of ends steps. once_unwell c.args.self.now c.args.job.now e r c.in_ok-outcome.outcome (sym c.ends_well.ensures ∙ c.if-not-ends_well.true) ends))

pub returns-then-is_through-clause-step : goal.returns-then-is_through-clause-step
returns-then-is_through-clause-step c =
    inl
    (subst (λ v. Commits c.args.self.now c.args.job.now c.in_ok-outcome.outcome v) (sym c.is_through.ensures.same)
    (runs_at_once c.args.self.now c.args.job.now c.in_ok-outcome.outcome c.run_ready.new.self c.in_ok-outcome.ensures.step
    (c.has_ended_well.ensures.no c.if-has_ended_well.false)
    (λ e r of ends steps.
    once_through c.args.self.now c.run_ready.new.self c.args.job.now e r steps
    (rw (c.ticket.ensures.entry) at (c.is_through.ensures.through c.if-is_through.true)))))
