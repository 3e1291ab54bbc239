use Rattle.std.proofs.Common.{Some, subst}
use Rattle.device_model.proofs.Lists.{same}
use Rattle.stored_world.specs.Inner.Stored.{IsHosted}
use Rattle.stored_world.proofs.Hosting.{hosted_set}
use Rattle.stored_world.proofs.stored.StoredWorld.put_disk.Goals as goal

pub invariant_of-self : goal.invariant_of-self
invariant_of-self c =
    let old = c.args.self.now in
    record {
      hosted =
          hosted_set old.world.units old.disks.items c.args.unit_index (Some c.args.disk)
          (λ h is u at. subst (λ x. IsHosted u x) (same is) (c.requires.hosted u at)) old.hosted;
    }
