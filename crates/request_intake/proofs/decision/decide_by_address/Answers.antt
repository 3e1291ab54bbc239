use Rattle.std.proofs.Common.{length}
use Rattle.request_intake.proofs.decision.decide_by_address.Goals as goal

-- no index is one of no unit
pub returns-in-None-clause-suits : goal.returns-in-None-clause-suits
returns-in-None-clause-suits c = c.decide_by_command-in-None.ensures.suits (length c.args.inventory.now.addresses) tt
