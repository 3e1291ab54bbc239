use Rattle.std.proofs.Common.{◌∙◌}
use Rattle.logical_unit.proofs.Durable.{begun_now}
use Rattle.logical_unit.proofs.flushing.take_turn.Goals as goal

pub returns-in-None-clause-fenced : goal.returns-in-None-clause-fenced
returns-in-None-clause-fenced c = λ o steps may stored was.
    begun_now o steps c.args.own c.begin_flush.new.self may (λ b. c.begin_flush.ensures.blocks b ∙ stored b) c.begin_flush.ensures.begun

pub returns-in-None-clause-since : goal.returns-in-None-clause-since
returns-in-None-clause-since c = λ o steps may stored was own.
    begun_now o steps c.args.own c.begin_flush.new.self may (λ b. c.begin_flush.ensures.blocks b ∙ stored b) c.begin_flush.ensures.begun
