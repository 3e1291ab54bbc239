use Rattle.std.proofs.Common.{◌<◌, length, Some, refl, ◌∙◌, ap, arith}
use Rattle.std.proofs.lemmas.Option.{slice_get_read}
use Rattle.block_store.specs.Storage.{Dealing}
use Rattle.block_store.specs.Blocks.{nth_block}
use Rattle.stored_world.proofs.Hosting.{page_kept, hosted_by_load}
use Rattle.stored_world.proofs.stored.StoredWorld.load.Goals as goal

pub load-requires-clause-kept : goal.load-requires-clause-kept
load-requires-clause-kept c =
    let old = c.args.self.now in
    let items = old.disks.items in
    let within : c.args.unit_index < length items = omega (arith, c.if-at-len.false, c.len.ensures) in
    let there = slice_get_read items (length items) c.args.unit_index c.index.result.now refl within c.index.ensures ∙ ap Some c.in-Some.is in
    page_kept old.world.units items c.args.unit_index c.args.page c.in-Some.disk c.as_slice.result.now old.hosted there
    (λ k below. ap (λ xs. nth_block xs k) c.as_slice.ensures.value ∙ c.in_ok-bytes.ensures.bytes k below)

pub invariant_of-self : goal.invariant_of-self
invariant_of-self c =
    let old = c.args.self.now in
    let new = c.load.new.self in
    record {
      hosted =
          hosted_by_load c.load.result old.world new c.args.unit_index (Dealing.Load c.args.page) old.disks.items c.load.ensures.loaded
          c.load.ensures.otherwise c.load.ensures.err (λ s b. refl) (λ s b. refl) old.hosted;
    }
