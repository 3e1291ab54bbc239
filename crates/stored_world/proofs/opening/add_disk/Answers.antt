use Rattle.std.proofs.Common.{Some, None, refl}
use Rattle.backed_store.specs.declared.disk.Disk.TheVariants.{Whole, Backed}
use Rattle.stored_world.specs.declared.hosted.HostedDisk.{HostedDisk}
use Rattle.stored_world.proofs.Fresh.{zero_whole, zero_backed}
use Rattle.stored_world.proofs.opening.add_disk.Goals as goal

pub returns-in_ok-push-in-None-2 : goal.returns-in_ok-push-in-None-2
returns-in_ok-push-in-None-2 c =
    record {
      adds =
          record {
            disk = Whole c.new.result;
            hosted = None;
            is =
                zero_whole c.new.result c.args.blocks c.args.cache c.in-None.is c.new.ensures.capacity c.new.ensures.zeros;
            disks = c.in_ok-push-in-None.ensures.items;
            storages = c.in_ok-push-in-None-2.ensures.items;
          };
    }

pub returns-in_ok-push-in-Some-2 : goal.returns-in_ok-push-in-Some-2
returns-in_ok-push-in-Some-2 c =
    let h : HostedDisk = record { storage = c.new-in-Some-2.result; capacity = c.args.blocks } in
    let new = c.new-disk.ensures in
    record {
      adds =
          record {
            disk = Backed c.new-disk.result;
            hosted = Some h;
            is =
                zero_backed c.new-disk.result h c.args.blocks c.in-Some.budget c.args.cache c.new-in-Some.result.items c.in-Some.is
                c.new-in-Some.ensures new.capacity new.blocks new.ledger c.new-in-Some-2.ensures.given c.new-in-Some-2.ensures.kept refl;
            disks = c.in_ok-push-in-Some.ensures.items;
            storages = c.in_ok-push-in-Some-2.ensures.items;
          };
    }
