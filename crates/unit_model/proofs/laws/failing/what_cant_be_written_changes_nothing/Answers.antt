use Rattle.std.proofs.Common.{ap}
use Rattle.command_model.specs.PlainReply.{PlainReply}
use Rattle.unit_model.specs.Contents.{facts_after}
use Rattle.unit_model.proofs.Failing.{unwritten_blocks, page_flushes}
use Rattle.unit_model.proofs.laws.failing.what_cant_be_written_changes_nothing.Goals as goal

pub returns-clause-status : goal.returns-clause-status
returns-clause-status c = λ o e past p r h. ap (λ (x : PlainReply). x.status) h.is

pub returns-clause-sense : goal.returns-clause-sense
returns-clause-sense c = λ o e past p r h. ap (λ (x : PlainReply). x.sense) h.is

pub returns-clause-blocks : goal.returns-clause-blocks
returns-clause-blocks c = unwritten_blocks

pub returns-clause-flush : goal.returns-clause-flush
returns-clause-flush c = λ o e past p r h. page_flushes e.asks_medium (facts_after o past).capacity e.command p h.flushed
