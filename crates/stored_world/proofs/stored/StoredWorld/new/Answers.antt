use Rattle.std.proofs.Common.{◌<◌, length, List, None, refl, sym, ◌∙◌, ap, subst, arith}
use Rattle.std.specs.Prelude.{slice_get}
use Rattle.std.proofs.lemmas.Option.{slice_get_read, slice_get-get_or}
use Rattle.unit_model.specs.Unit.{PlainUnit}
use Rattle.device_model.specs.World.{PlainWorld}
use Rattle.stored_world.specs.Inner.Stored.{AreHosted}
use Rattle.stored_world.proofs.Fresh.{AreMade, one_more, zero_more, hosted_over}
use Rattle.stored_world.proofs.Taken.{few_blocks, caches_for, refused}
use Rattle.stored_world.proofs.stored.StoredWorld.new.Goals as goal

pub returns-then-blocks-ge-MOST-clause-opening : goal.returns-then-blocks-ge-MOST-clause-opening
returns-then-blocks-ge-MOST-clause-opening c = λ is may.
    let wanted = c.args.config.now.units.items in
    let within : c.loop-unit_index.unit_index < length wanted = omega (arith, c.loop-unit_index-test.true, c.if-len-caches.false) in
    let unit = slice_get_read wanted (length wanted) c.loop-unit_index.unit_index c.index.result.now refl within c.index.ensures in
    let few = few_blocks c.args.config.now c.loop-unit_index.unit_index c.index.result.now is unit in
    absurd (omega (arith, few, c.if-blocks-ge-MOST.true))

pub loop-unit_index-preserved : goal.loop-unit_index-preserved
loop-unit_index-preserved c =
    let adds = c.in-Ok.ensures.adds in
    let inv = c.loop-unit_index.invariant in
    let wanted = c.args.config.now.units.items in
    let caches = c.args.caches.now in
    let within : c.loop-unit_index.unit_index < length wanted = omega (arith, c.loop-unit_index-test.true, c.if-len-caches.false) in
    record {
      count = one_more c.loop-unit_index.disks.items adds.disk c.loop-unit_index.unit_index adds.disks inv.count;
      storages = one_more c.loop-unit_index.hosted.items adds.hosted c.loop-unit_index.unit_index adds.storages inv.storages;
      are =
          zero_more wanted caches c.loop-unit_index.disks.items c.add_disk.new.disks.items c.loop-unit_index.hosted.items c.add_disk.new.hosted.items
          c.loop-unit_index.unit_index c.index.result.now _
          (slice_get_read wanted (length wanted) c.loop-unit_index.unit_index c.index.result.now refl within c.index.ensures)
          (slice_get-get_or caches c.loop-unit_index.unit_index None c.loop-unit_index-test.true) inv.count inv.storages inv.are adds;
    }

pub returns-clause-opening : goal.returns-clause-opening
returns-clause-opening c =
    let inv = c.loop-unit_index.invariant in
    let made : AreMade c.args.config.now.units.items c.args.caches.now c.loop-unit_index.disks.items c.loop-unit_index.hosted.items =
    record {
      asked = omega (arith, c.if-len-caches.false, c.len.ensures);
      count = omega (arith, inv.count, c.loop-unit_index-test.false, c.loop-unit_index.auto.unit_index-end, c.if-len-caches.false, c.len.ensures);
      storages = omega (arith, inv.storages, c.loop-unit_index-test.false, c.loop-unit_index.auto.unit_index-end, c.if-len-caches.false, c.len.ensures);
      are = inv.are;
    } in
    refused c.args.config.now c.args.caches.now c.loop-unit_index.disks.items c.loop-unit_index.hosted.items c.in-Err-new_with.fault made
    c.in-Err-new_with.ensures.opening.0

pub invariant_of-result : goal.invariant_of-result
invariant_of-result c =
    let inv = c.loop-unit_index.invariant in
    let made : AreMade c.args.config.now.units.items c.args.caches.now c.loop-unit_index.disks.items c.loop-unit_index.hosted.items =
    record {
      asked = omega (arith, c.if-len-caches.false, c.len.ensures);
      count = omega (arith, inv.count, c.loop-unit_index-test.false, c.loop-unit_index.auto.unit_index-end, c.if-len-caches.false, c.len.ensures);
      storages = omega (arith, inv.storages, c.loop-unit_index-test.false, c.loop-unit_index.auto.unit_index-end, c.if-len-caches.false, c.len.ensures);
      are = inv.are;
    } in
    let hs = c.loop-unit_index.hosted.items in
    let over = c.in-Ok-new_with.ensures.opening.2 in
    let units = ap (λ (w : PlainWorld). w.units) over.is in
    record {
      hosted =
          subst (λ (us : List PlainUnit). AreHosted us hs) (sym units)
          (hosted_over c.args.config.now.units.items c.args.caches.now over.bare.units c.loop-unit_index.disks.items hs made
          (λ k v at. (c.in-Ok-new_with.ensures.opens.units k v (ap (λ (us : List PlainUnit). slice_get us k) units ∙ at)).steps));
    }

pub returns-in-Ok-new_with-clause-opening : goal.returns-in-Ok-new_with-clause-opening
returns-in-Ok-new_with-clause-opening c =
    let inv = c.loop-unit_index.invariant in
    let made : AreMade c.args.config.now.units.items c.args.caches.now c.loop-unit_index.disks.items c.loop-unit_index.hosted.items =
    record {
      asked = omega (arith, c.if-len-caches.false, c.len.ensures);
      count = omega (arith, inv.count, c.loop-unit_index-test.false, c.loop-unit_index.auto.unit_index-end, c.if-len-caches.false, c.len.ensures);
      storages = omega (arith, inv.storages, c.loop-unit_index-test.false, c.loop-unit_index.auto.unit_index-end, c.if-len-caches.false, c.len.ensures);
      are = inv.are;
    } in
    let opening = c.in-Ok-new_with.ensures.opening in
    let ds = c.loop-unit_index.disks.items in (
      opening.0,
      caches_for c.args.config.now.units.items c.args.caches.now ds c.loop-unit_index.hosted.items made opening.1,
      record { disks = ds; opening = opening.2; count = made.count; storages = made.storages; each = made.are },
    )
