use Rattle.std.proofs.Common.{◌≡◌, Some, sym, subst, ◌∙◌}
use Rattle.std.specs.Prelude.{slice_get}
use Rattle.std.proofs.lemmas.Option.{slice_get_read}
use Rattle.device_steps.specs.Apart.{PlainDevice}
use Rattle.device_steps.proofs.Finding.{find_here}
use Rattle.device_steps.proofs.device.Device.unit_place.Goals as goal

pub returns-then-has_address : goal.returns-then-has_address
returns-then-has_address c =
    let d = c.self.inside in
    let found : slice_get d.units.items c.loop-unit_index.unit_index ≡ Some c.index.result.now =
    slice_get_read d.units.items c.len-unit_index-end.result c.loop-unit_index.unit_index c.index.result.now
    (c.len-unit_index-end.ensures ∙ d.units.ok.0) c.loop-unit_index-test.true c.index.ensures in
    let at = subst (λ (z : PlainDevice). slice_get z.units c.loop-unit_index.unit_index ≡ Some c.index.result.now) c.self.view_is found in (
      c.index.result.now,
      at,
      c.loop-unit_index.invariant.rest
          ∙ find_here _ c.args.self.now.units c.loop-unit_index.unit_index c.index.result.now at
          (sym c.has_address.ensures.test ∙ c.if-has_address.true),
    )
