use Rattle.unit_model.proofs.Flushing.{durable, as_left, written}
use Rattle.unit_model.proofs.laws.flushing.a_flush_leaves_what_was_written.Goals as goal

pub returns-clause-durable : goal.returns-clause-durable
returns-clause-durable c = durable

pub returns-clause-read : goal.returns-clause-read
returns-clause-read c = as_left

pub returns-clause-written : goal.returns-clause-written
returns-clause-written c = written
