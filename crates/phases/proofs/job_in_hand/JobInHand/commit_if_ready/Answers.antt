use Rattle.phases.proofs.Defers.{came}
use Rattle.phases.proofs.job_in_hand.JobInHand.commit_if_ready.Goals as goal

pub returns-clause-over : goal.returns-clause-over
returns-clause-over c =
    rw (← c.self.view_is)
    (came c.self.inside.job c.args.unit.now c.commit_ready.new.self c.commit_ready.result c.is_some.result c.is_some.ensures
    c.commit_ready.ensures.step)
