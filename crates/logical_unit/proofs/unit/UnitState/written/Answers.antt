use Rattle.std.proofs.Common.{◌∙◌}
use Rattle.logical_unit.specs.Fields.{opening_of}
use Rattle.logical_unit.proofs.Durable.{kept_each, wrote_by}
use Rattle.logical_unit.proofs.unit.UnitState.written.Goals as goal

pub invariant_of-self : goal.invariant_of-self
invariant_of-self c =
    let u = c.self.inside in
    record {
      kept = kept_each (opening_of u) u.log.steps _ _ u.attentions u.tasks u.last_tickets u.log.room c.self.invariant.kept c.written.ensures.blocks;
      based = c.self.invariant.based;
      sized = c.written.ensures.size ∙ c.self.invariant.sized;
      noted = c.self.invariant.noted;
      flushing = wrote_by (opening_of u) u.log.steps u.fence c.written.result c.args.page c.written.new.self u.store c.written.ensures.kept c.written.ensures.otherwise c.written.ensures.err c.self.invariant.flushing;
    }
