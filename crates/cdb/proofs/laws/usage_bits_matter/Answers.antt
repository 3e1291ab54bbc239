use Rattle.cdb.proofs.Deciding.{plain_decide, action_decide}
use Rattle.cdb.proofs.Mattering.{plain_matter, action_matter}
use Rattle.cdb.proofs.laws.usage_bits_matter.Goals as goal

pub returns-clause-plain : goal.returns-clause-plain
returns-clause-plain c = plain_decide

pub returns-clause-actions : goal.returns-clause-actions
returns-clause-actions c = action_decide

pub returns-clause-each_plain : goal.returns-clause-each_plain
returns-clause-each_plain c = plain_matter

pub returns-clause-each_action : goal.returns-clause-each_action
returns-clause-each_action c = action_matter
