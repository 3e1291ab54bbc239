use Rattle.std.proofs.Common.{refl}
use Rattle.block_store.specs.Storage.{Dealing}
use Rattle.stored_world.proofs.Hosting.{hosted_by_load}
use Rattle.stored_world.proofs.stored.StoredWorld.denied.Goals as goal

pub invariant_of-self : goal.invariant_of-self
invariant_of-self c =
    let old = c.args.self.now in
    let new = c.denied.new.self in
    record {
      hosted =
          hosted_by_load c.denied.result old.world new c.args.unit_index (Dealing.Deny c.args.page) old.disks.items c.denied.ensures.denied
          c.denied.ensures.otherwise c.denied.ensures.err (λ s b. refl) (λ s b. refl) old.hosted;
    }
