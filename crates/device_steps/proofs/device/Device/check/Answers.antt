use Rattle.std.proofs.Common.{◌<◌, slice_get, ap, sym, ◌∙◌, arith}
use Rattle.std.proofs.lemmas.Option.{slice_get_read}
use Rattle.device_model.specs.World.{Opened}
use Rattle.device_model.specs.Events.{Event}
use Rattle.device_steps.proofs.Setting.{turns_seen, sound_seen}
use Rattle.device_steps.proofs.Checks.{check_turns}
use Rattle.device_steps.proofs.device.Device.check.Goals as goal

pub returns : goal.returns
returns c shared m sound =
    let d = c.self.inside in
    let mark = c.in-Some-waits_for.mark in
    let within : mark.unit < d.units.len = omega (arith, c.len.ensures, c.if-mark-len.false) in
    let at = slice_get_read d.units.items d.units.len mark.unit c.index.result.now d.units.ok.0 within
    c.index.ensures in
    let f = c.in-Some.open in
    let first = sym (ap (λ (o : Opened). slice_get o.function.waits 0) c.open.view_is)
    ∙ sym c.waits_for.ensures ∙ c.in-Some-waits_for.is in
    let firm = sound_seen shared m _ _ c.self.view_is sound in
    turns_seen shared m _ _ Event.Check c.phase_check.result _ c.self.view_is
    (check_turns _ f _ mark _ c.phase_check.result firm.addressed c.in-Some.is first at c.phase_check.ensures)
