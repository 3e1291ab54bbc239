use Rattle.std.proofs.Common.{◌∙◌}
use Rattle.logical_unit.specs.Fields.{opening_of}
use Rattle.logical_unit.proofs.Durable.{kept_each, gave_by}
use Rattle.logical_unit.proofs.unit.UnitState.give.Goals as goal

pub invariant_of-self : goal.invariant_of-self
invariant_of-self c =
    let u = c.self.inside in
    record {
      kept = kept_each (opening_of u) u.log.steps _ _ u.attentions u.tasks u.last_tickets u.log.room c.self.invariant.kept c.give.ensures.blocks;
      based = c.self.invariant.based;
      sized = c.give.ensures.size ∙ c.self.invariant.sized;
      noted = c.self.invariant.noted;
      flushing = gave_by (opening_of u) u.log.steps u.fence c.give.result c.give.new.self u.store c.self.invariant.kept.stored c.give.ensures.given c.give.ensures.now c.give.ensures.none c.give.ensures.err c.self.invariant.flushing;
    }
