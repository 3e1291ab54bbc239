use Rattle.handoff.proofs.Rules.{begins}
use Rattle.handoff.proofs.lane.Lane.new.Goals as goal

pub ruled-requires-clause-rule : goal.ruled-requires-clause-rule
ruled-requires-clause-rule c = begins
