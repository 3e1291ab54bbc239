use Rattle.std.proofs.Common.{refl, sym, ◌∙◌, ap}
use Rattle.block_store.specs.Storage.{Dealing}
use Rattle.device_model.specs.World.{PlainWorld}
use Rattle.stored_world.specs.declared.hosted.HostedDisk.{HostedDisk}
use Rattle.stored_world.proofs.Hosting.{hosted_still, hosted_by_written, hosted_of_deal}
use Rattle.stored_world.proofs.stored.StoredWorld.written.Goals as goal

pub invariant_of-self : goal.invariant_of-self
invariant_of-self c =
    let taken = c.take_disk.new.self in
    let e = c.written.ensures in
    record {
      hosted =
          hosted_by_written c.written.result taken.world c.written.new.self c.args.unit_index (Dealing.Keep c.args.page) taken.disks.items e.kept e.otherwise e.err
          c.take_disk.ensures.gone taken.hosted;
    }

pub put_disk-requires : goal.put_disk-requires
put_disk-requires c =
    let taken = c.take_disk.new.self in
    let disk = c.in-Some.disk in
    let h : HostedDisk = record { storage = c.keep.new.self; capacity = disk.capacity } in
    let units = ap (λ (w : PlainWorld). w.units) c.take_disk.ensures.world in
    record {
      hosted =
          hosted_of_deal taken.world c.written.new.self c.args.unit_index (Dealing.Keep c.args.page) disk h (c.in-Ok-true.ensures.kept c.in-Ok-true.field-0-test)
          (hosted_still c.args.self.now.world.units taken.world.units c.args.unit_index disk units c.in-Some.ensures.disk) c.in_ok-keep-in-Ok-true.ensures.given
          c.in_ok-keep-in-Ok-true.ensures.kept refl;
    }

pub put_disk-requires-in-Ok-false : goal.put_disk-requires-in-Ok-false
put_disk-requires-in-Ok-false c =
    let units = ap (λ (w : PlainWorld). w.units) (c.in-Ok-false.ensures.otherwise c.in-Ok-false.field-0-test ∙ c.take_disk.ensures.world) in
    record { hosted = hosted_still c.args.self.now.world.units c.written.new.self.units c.args.unit_index c.in-Some.disk units c.in-Some.ensures.disk }

pub put_disk-requires-in-Err : goal.put_disk-requires-in-Err
put_disk-requires-in-Err c =
    let units = ap (λ (w : PlainWorld). w.units) (c.in-Err.ensures.err ∙ c.take_disk.ensures.world) in
    record { hosted = hosted_still c.args.self.now.world.units c.written.new.self.units c.args.unit_index c.in-Some.disk units c.in-Some.ensures.disk }
