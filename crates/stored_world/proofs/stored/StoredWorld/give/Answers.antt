use Rattle.backed_store.specs.declared.dealing.GivenPage.{GivenPage}
use Rattle.world.specs.Paging.{DealsAsPromised}
use Rattle.std.proofs.Common.{◌≡◌, ◌%◌, refl, sym, ◌∙◌, ap}
use Rattle.block_store.specs.Pages.{blocks_in}
use Rattle.block_store.specs.Storage.{Dealing, with_page}
use Rattle.host_storage.specs.Inner.Storage.{given_blocks}
use Rattle.device_model.specs.World.{PlainWorld}
use Rattle.stored_world.specs.declared.hosted.HostedDisk.{HostedDisk}
use Rattle.stored_world.proofs.Hosting.{if_some_is, if_none_is, hosted_still, hosted_by_give, hosted_of_deal}
use Rattle.stored_world.proofs.stored.StoredWorld.give.Goals as goal

pub invariant_of-self : goal.invariant_of-self
invariant_of-self c =
    let taken = c.take_disk.new.self in
    let e = c.give.ensures in
    record { hosted = hosted_by_give c.give.result taken.world c.give.new.self c.args.unit_index taken.disks.items e.given e.none e.err c.take_disk.ensures.gone taken.hosted }

pub put_disk-requires : goal.put_disk-requires
put_disk-requires c =
    let taken = c.take_disk.new.self in
    let disk = c.in-Some.disk in
    let given = c.in-Ok-Some.field-0-0 in
    let page = given.page in
    let bytes = given.bytes.items in
    let deals =
    if_some_is c.in-Ok-Some.field-0 (λ (g : GivenPage). DealsAsPromised taken.world c.args.unit_index (Dealing.Give g.page g.bytes.items) c.give.new.self) given
    c.in-Ok-Some.field-0-is c.in-Ok-Some.ensures.given in
    let h : HostedDisk = record { storage = c.give-in-Ok-Some.new.self; capacity = disk.capacity } in
    let units = ap (λ (w : PlainWorld). w.units) c.take_disk.ensures.world in
    record {
      hosted =
          hosted_of_deal taken.world c.give.new.self c.args.unit_index (Dealing.Give page bytes) disk h deals
          (hosted_still c.args.self.now.world.units taken.world.units c.args.unit_index disk units c.in-Some.ensures.disk)
          (λ b.
          c.in_ok-give-in-Ok-Some.ensures.given b
          ∙ ap (λ xs. with_page page (λ i. blocks_in xs (i % 8)) (given_blocks disk.storage) b) c.as_slice.ensures.value)
          c.in_ok-give-in-Ok-Some.ensures.kept refl;
    }

pub put_disk-requires-in-Ok-None : goal.put_disk-requires-in-Ok-None
put_disk-requires-in-Ok-None c =
    let taken = c.take_disk.new.self in
    let units = ap (λ (w : PlainWorld). w.units) (if_none_is c.in-Ok-None.field-0 (c.give.new.self ≡ taken.world) c.in-Ok-None.field-0-is c.in-Ok-None.ensures.none ∙ c.take_disk.ensures.world) in
    record { hosted = hosted_still c.args.self.now.world.units c.give.new.self.units c.args.unit_index c.in-Some.disk units c.in-Some.ensures.disk }

pub put_disk-requires-in-Err : goal.put_disk-requires-in-Err
put_disk-requires-in-Err c =
    let units = ap (λ (w : PlainWorld). w.units) (c.in-Err.ensures.err ∙ c.take_disk.ensures.world) in
    record { hosted = hosted_still c.args.self.now.world.units c.give.new.self.units c.args.unit_index c.in-Some.disk units c.in-Some.ensures.disk }
