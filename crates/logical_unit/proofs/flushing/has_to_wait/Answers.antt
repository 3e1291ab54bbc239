use Rattle.std.proofs.Common.{false, sym, ◌∙◌}
use Rattle.logical_unit.specs.Inner.Flushes.{fence_of}
use Rattle.logical_unit.proofs.Durable.{begun_whole}
use Rattle.logical_unit.proofs.flushing.has_to_wait.Goals as goal

pub returns-then-is_resident-clause-since : goal.returns-then-is_resident-clause-since
returns-then-is_resident-clause-since c = λ o steps may stored was no flush.
    begun_whole o steps (fence_of c.args.ticket c.args.place false) c.args.disk.now may (sym c.is_resident.ensures.kind ∙ c.if-is_resident.true)
