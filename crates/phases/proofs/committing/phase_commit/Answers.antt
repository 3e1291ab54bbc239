use Rattle.std.proofs.Common.{sym, ◌∙◌}
use Rattle.phases.proofs.Defers.{commits_or_waits}
use Rattle.phases.proofs.committing.phase_commit.Goals as goal

pub returns-else-is_over-clause-commits : goal.returns-else-is_over-clause-commits
returns-else-is_over-clause-commits c =
    let held = c.in-Job.held in
    let not_over = sym c.is_over.ensures ∙ c.if-is_over.false in
    rw c.in-Job.is
    (commits_or_waits held.job held.outcome c.args.unit.now c.commit_if_ready.new.unit c.commit_if_ready.new.self
    c.commit_if_ready.result not_over c.commit_if_ready.ensures.over c.commit_if_ready.ensures.waits)
