use Rattle.std.proofs.Common.{◌≡◌, Some, true≢false, sym, ap, ◌∙◌, inl, inr}
use Rattle.std.specs.Prelude.{slice_get}
use Rattle.std.proofs.lemmas.Option.{slice_get_read}
use Rattle.unit_model.specs.Unit.{PlainUnit}
use Rattle.device_model.proofs.Lists.{same}
use Rattle.device_steps.proofs.Choosing.{below_next}
use Rattle.device_steps.proofs.device.Device.unit_index.Goals as goal

pub loop-unit_index-preserved : goal.loop-unit_index-preserved
loop-unit_index-preserved c =
    let d = c.self.inside in
    let found : slice_get d.units.items c.loop-unit_index.unit_index ≡ Some c.index.result.now =
    slice_get_read d.units.items c.len-unit_index-end.result c.loop-unit_index.unit_index c.index.result.now
    (c.len-unit_index-end.ensures ∙ d.units.ok.0) c.loop-unit_index-test.true c.index.ensures in
    record {
      none = λ k u lt at target lun. elim (below_next k c.loop-unit_index.unit_index lt) [
        | inl below ↦ c.loop-unit_index.invariant.none k u below at target lun
        | inr here ↦
            let there = rw (← c.self.view_is) at at in
            let is = same (sym found ∙ ap (λ i. slice_get d.units.items i) (sym here) ∙ there) in
            let on = c.has_address.ensures.is.1
            (ap (λ (z : PlainUnit). z.opening.target) is ∙ target, ap (λ (z : PlainUnit). z.opening.lun) is ∙ lun) in
            true≢false (sym (rw c.if-has_address.false at on))
      ];
      all = c.loop-unit_index.invariant.all;
    }
