use Rattle.std.proofs.Common.{◌≡◌, ◌<◌, length, Some, None, refl, sym, ◌∙◌, ap, subst, arith}
use Rattle.std.specs.Prelude.{slice_get}
use Rattle.std.proofs.Math.ListN.{set}
use Rattle.std.proofs.lemmas.Option.{slice_get_read}
use Rattle.device_model.proofs.Lists.{nothing}
use Rattle.unit_model.specs.Unit.{PlainUnit}
use Rattle.stored_world.specs.Inner.Stored.{IsHosted}
use Rattle.stored_world.proofs.Hosting.{hosted_set, gone_at, on_some}
use Rattle.stored_world.proofs.stored.StoredWorld.take_disk.Goals as goal

pub invariant_of-self : goal.invariant_of-self
invariant_of-self c =
    let old = c.args.self.now in
    record {
      hosted =
          hosted_set old.world.units old.disks.items c.args.unit_index c.replace.new.dest (λ h is u at. absurd (nothing (sym c.replace.ensures.after ∙ is)))
          old.hosted;
    }

pub returns-clause-disk : goal.returns-clause-disk
returns-clause-disk c =
    let old = c.args.self.now in
    let items = old.disks.items in
    let within : c.args.unit_index < length items = omega (arith, c.if-unit_index-len.false, c.len.ensures) in
    let there = slice_get_read items (length items) c.args.unit_index c.index_mut.result.now refl within c.index_mut.ensures.value in
    on_some c.replace.result (λ h. (u : PlainUnit) → slice_get old.world.units c.args.unit_index ≡ Some u → IsHosted u h)
    (λ h is u at. old.hosted c.args.unit_index u h at (there ∙ ap Some (sym c.replace.ensures.value ∙ is)))

pub returns-clause-gone : goal.returns-clause-gone
returns-clause-gone c = λ h at.
    let items = c.args.self.now.disks.items in
    let within : c.args.unit_index < length items = omega (arith, c.if-unit_index-len.false, c.len.ensures) in
    gone_at items c.args.unit_index h within (ap (λ o. slice_get (set items c.args.unit_index o) c.args.unit_index) (sym c.replace.ensures.after) ∙ at)
