use Rattle.std.proofs.Common.{refl, ◌∙◌}
use Rattle.block_store.specs.Storage.{Dealing}
use Rattle.logical_unit.specs.Fields.{opening_of}
use Rattle.logical_unit.proofs.Durable.{kept_each, said_by}
use Rattle.logical_unit.proofs.unit.UnitState.load.Goals as goal

pub invariant_of-self : goal.invariant_of-self
invariant_of-self c =
    let u = c.self.inside in
    record {
      kept = kept_each (opening_of u) u.log.steps _ _ u.attentions u.tasks u.last_tickets u.log.room c.self.invariant.kept c.load.ensures.blocks;
      based = c.self.invariant.based;
      sized = c.load.ensures.size ∙ c.self.invariant.sized;
      noted = c.self.invariant.noted;
      flushing =
          said_by (opening_of u) u.log.steps u.fence c.load.result (Dealing.Load c.args.page) c.load.new.self u.store (λ s. refl) (λ p. refl)
          c.load.ensures.loaded c.load.ensures.otherwise c.load.ensures.err c.self.invariant.flushing;
    }
