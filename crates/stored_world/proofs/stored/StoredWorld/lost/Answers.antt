use Rattle.std.proofs.Common.{Bool, true, false, IsTrue, IsFalse, ◌≡◌, refl, sym, subst, List, Option}
use Rattle.block_store.specs.Storage.{Dealing}
use Rattle.device_model.specs.World.{PlainWorld}
use Rattle.world.specs.Paging.{DealsAsPromised}
use Rattle.stored_world.specs.Inner.Stored.{AreHosted}
use Rattle.stored_world.specs.declared.hosted.HostedDisk.{HostedDisk}
use Rattle.stored_world.proofs.Hosting.{hosted_by_told}
use Rattle.stored_world.proofs.stored.StoredWorld.lost.Goals as goal

pub invariant_of-self : goal.invariant_of-self
invariant_of-self c =
    let old = c.args.self.now in
    let new = c.lost.new.self in
    record {
      hosted =
          hosted_by_told c.lost.result old.world new c.args.unit_index (Dealing.Lose c.args.page) old.disks.items c.lost.ensures.lost c.lost.ensures.otherwise
          (λ s b. refl) (λ s b. refl) old.hosted;
    }
