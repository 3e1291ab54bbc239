use Rattle.std.proofs.Common.{◌∙◌}
use Rattle.logical_unit.specs.Fields.{opening_of}
use Rattle.logical_unit.proofs.Durable.{kept_each, lost_by}
use Rattle.logical_unit.proofs.unit.UnitState.lost.Goals as goal

pub invariant_of-self : goal.invariant_of-self
invariant_of-self c =
    let u = c.self.inside in
    record {
      kept = kept_each (opening_of u) u.log.steps _ _ u.attentions u.tasks u.last_tickets u.log.room c.self.invariant.kept c.lost.ensures.blocks;
      based = c.self.invariant.based;
      sized = c.lost.ensures.size ∙ c.self.invariant.sized;
      noted = c.self.invariant.noted;
      flushing = lost_by (opening_of u) u.log.steps u.fence c.lost.result c.args.page c.lost.new.self u.store c.lost.ensures.lost c.lost.ensures.otherwise c.self.invariant.flushing;
    }
