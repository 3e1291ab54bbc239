use Rattle.workers.proofs.Fetches.{decided_report}
use Rattle.workers.proofs.host.Host.close.Goals as goal

-- the notes Direct are those of the queues, and no seat kept one
pub returns-clause-direct : goal.returns-clause-direct
returns-clause-direct g c =
    decided_report _ _ c.in_ok-closed.closed c.in_ok-kept.kept.items c.in_ok-closed.ensures.gathered c.report_closed.ensures.report c.report_closed.ensures.queues c.report_closed.ensures.notes
