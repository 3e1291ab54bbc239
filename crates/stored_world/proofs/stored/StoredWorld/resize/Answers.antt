use Rattle.std.proofs.Common.{min, refl, sym, ◌∙◌, ap, subst}
use Rattle.block_store.specs.Storage.{cut}
use Rattle.host_storage.specs.Inner.Storage.{given_blocks, kept_blocks}
use Rattle.device_model.specs.World.{PlainWorld}
use Rattle.device_model.specs.Events.{Event}
use Rattle.device_model.specs.Turns.{IsStep}
use Rattle.stored_world.specs.declared.hosted.HostedDisk.{HostedDisk}
use Rattle.stored_world.proofs.Hosting.{hosted_still, hosted_by_resize, hosted_of_resize, unresized_units}
use Rattle.stored_world.proofs.stored.StoredWorld.resize.Goals as goal

pub invariant_of-self : goal.invariant_of-self
invariant_of-self c =
    let taken = c.take_disk-disk.new.self in
    record {
      hosted =
          hosted_by_resize c.step-resized.result taken.world c.step-resized.new.self c.args.unit_index c.args.blocks taken.disks.items c.step-resized.ensures.steps
          c.take_disk-disk.ensures.gone taken.hosted;
    }

pub put_disk-requires : goal.put_disk-requires
put_disk-requires c =
    let taken = c.take_disk-disk.new.self in
    let disk = c.in-Some.disk in
    let h : HostedDisk = record { storage = c.cut.new.self; capacity = c.args.blocks } in
    let units = ap (λ (w : PlainWorld). w.units) c.take_disk-disk.ensures.world in
    record {
      hosted =
          hosted_of_resize taken.world c.step-resized.new.self c.args.unit_index c.args.blocks disk h
          (subst (λ t. IsStep taken.world (Event.Resize c.args.unit_index c.args.blocks) t c.step-resized.new.self) c.in-Ok-true.field-0-test c.in-Ok-true.ensures.steps)
          (hosted_still c.args.self.now.world.units taken.world.units c.args.unit_index disk units c.in-Some.ensures.disk)
          (λ b. c.cut.ensures.given b ∙ ap (λ n. cut n (given_blocks disk.storage) b) c.min-end.ensures)
          (λ b. c.cut.ensures.kept b ∙ ap (λ n. cut n (kept_blocks disk.storage) b) c.min-end.ensures) refl;
    }

pub put_disk-requires-in-Ok-false : goal.put_disk-requires-in-Ok-false
put_disk-requires-in-Ok-false c =
    let taken = c.take_disk-disk.new.self in
    let units = unresized_units taken.world c.step-resized.new.self c.args.unit_index c.args.blocks
    (subst (λ t. IsStep taken.world (Event.Resize c.args.unit_index c.args.blocks) t c.step-resized.new.self) c.in-Ok-false.field-0-test c.in-Ok-false.ensures.steps)
    ∙ ap (λ (w : PlainWorld). w.units) c.take_disk-disk.ensures.world in
    record { hosted = hosted_still c.args.self.now.world.units c.step-resized.new.self.units c.args.unit_index c.in-Some.disk units c.in-Some.ensures.disk }

pub put_disk-requires-in-Err : goal.put_disk-requires-in-Err
put_disk-requires-in-Err c =
    let units = ap (λ (w : PlainWorld). w.units) (c.in-Err.ensures.steps.1 ∙ c.take_disk-disk.ensures.world) in
    record { hosted = hosted_still c.args.self.now.world.units c.step-resized.new.self.units c.args.unit_index c.in-Some.disk units c.in-Some.ensures.disk }
