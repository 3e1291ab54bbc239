use Rattle.std.proofs.Common.{◌≡◌, Bool, Some, Result, Err, sym, ap, subst, ◌∙◌}
use Rattle.std.specs.Prelude.{slice_get}
use Rattle.std.proofs.lemmas.Option.{slice_get_read}
use Rattle.foundation.specs.declared.NoMemory.{NoMemory}
use Rattle.phases.specs.declared.resizing.ResizeFault.{ResizeFault}
use Rattle.device_model.specs.Events.{Event}
use Rattle.device_steps.specs.Inner.Steps.{TurnsOrWants}
use Rattle.device_steps.specs.Apart.{standing}
use Rattle.device_steps.specs.contracts.device.Device as seen
use Rattle.device_steps.proofs.Setting.{sound_seen}
use Rattle.device_steps.proofs.Resizing.{told_as, resized_in, resizes}
use Rattle.device_steps.proofs.device.Device.resize.Goals.{in-Ok, in-Err-WrongUnit, in-Err-BadCapacity, in-Err-NoMemory}
use Rattle.device_steps.proofs.device.Device.resize.Goals as goal

abbrev refused : ResizeFault → Result Bool ResizeFault
refused x = Err x

pub returns : goal.returns
returns c shared m sound few =
    let d = c.self.inside in
    let w = standing shared m (seen.the_view d) in
    let firm = sound_seen shared m _ _ c.self.view_is sound in
    let u_at : slice_get d.units.items c.args.unit_index ≡ Some c.index_mut.result.now =
    slice_get_read d.units.items c.len.result c.args.unit_index c.index_mut.result.now
    (c.len.ensures ∙ d.units.ok.0) c.if-at-len.false c.index_mut.ensures.value in
    let same : told_as c.phase_resize.result ≡ c.match-phase_resize.result =
    elim c.match-phase_resize.branch [
      | in-Ok z ↦ ap told_as z.in-Ok.is ∙ sym z.result-is
      | in-Err-WrongUnit z ↦ ap told_as (z.in-Err-WrongUnit.is ∙ ap (λ x. refused x) z.in-Err-WrongUnit.field-0-is) ∙ sym z.result-is
      | in-Err-BadCapacity z ↦ ap told_as (z.in-Err-BadCapacity.is ∙ ap (λ x. refused x) z.in-Err-BadCapacity.field-0-is) ∙ sym z.result-is
      | in-Err-NoMemory z ↦ ap told_as (z.in-Err-NoMemory.is ∙ ap (λ x. refused x) z.in-Err-NoMemory.field-0-is) ∙ sym z.result-is
    ] in
    rw (← c.self.view_is)
    (subst (λ (r : Result Bool NoMemory). TurnsOrWants w (Event.Resize c.args.unit_index c.args.blocks) r
    (resized_in w c.args.unit_index c.phase_resize.new.unit c.phase_resize.new.waiting)) same
    (resizes w firm.addressed (rw (← c.self.view_is) at few) c.args.unit_index c.args.blocks c.index_mut.result.now c.phase_resize.new.unit c.phase_resize.new.waiting u_at
    c.phase_resize.result c.phase_resize.ensures))
