use Rattle.std.proofs.Common.{refl, ◌∙◌}
use Rattle.block_store.specs.Storage.{Dealing}
use Rattle.logical_unit.specs.Fields.{opening_of}
use Rattle.logical_unit.proofs.Durable.{kept_each, said_by}
use Rattle.logical_unit.proofs.unit.UnitState.denied.Goals as goal

pub invariant_of-self : goal.invariant_of-self
invariant_of-self c =
    let u = c.self.inside in
    record {
      kept = kept_each (opening_of u) u.log.steps _ _ u.attentions u.tasks u.last_tickets u.log.room c.self.invariant.kept c.denied.ensures.blocks;
      based = c.self.invariant.based;
      sized = c.denied.ensures.size ∙ c.self.invariant.sized;
      noted = c.self.invariant.noted;
      flushing =
          said_by (opening_of u) u.log.steps u.fence c.denied.result (Dealing.Deny c.args.page) c.denied.new.self u.store (λ s. refl) (λ p. refl)
          c.denied.ensures.denied c.denied.ensures.otherwise c.denied.ensures.err c.self.invariant.flushing;
    }
