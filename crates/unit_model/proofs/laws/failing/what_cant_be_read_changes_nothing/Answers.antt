use Rattle.std.proofs.Common.{ap}
use Rattle.command_model.specs.PlainReply.{PlainReply}
use Rattle.unit_model.proofs.Failing.{unread_blocks, resident_replies}
use Rattle.unit_model.proofs.laws.failing.what_cant_be_read_changes_nothing.Goals as goal

pub returns-clause-status : goal.returns-clause-status
returns-clause-status c = λ o e past p r h. ap (λ (x : PlainReply). x.status) h.is

pub returns-clause-sense : goal.returns-clause-sense
returns-clause-sense c = λ o e past p r h. ap (λ (x : PlainReply). x.sense) h.is

pub returns-clause-blocks : goal.returns-clause-blocks
returns-clause-blocks c = unread_blocks

pub returns-clause-resident : goal.returns-clause-resident
returns-clause-resident c = resident_replies
