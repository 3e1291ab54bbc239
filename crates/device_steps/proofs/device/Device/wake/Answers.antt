use Rattle.std.proofs.Common.{ℕ, refl, sym, ap, subst}
use Rattle.device_model.specs.Events.{Event}
use Rattle.device_steps.specs.Apart.{standing}
use Rattle.device_steps.specs.Aside.{KeptAside}
use Rattle.device_steps.specs.Inner.Kept.{HasLists}
use Rattle.device_steps.specs.contracts.device.Device.{the_view}
use Rattle.device_steps.proofs.Setting.{turns_seen}
use Rattle.device_steps.proofs.Resuming.{wakes}
use Rattle.device_steps.proofs.device.Device.wake.Goals as goal

pub invariant_of-self : goal.invariant_of-self
invariant_of-self c =
    let d = c.self.inside in
    subst (λ (places : ℕ). HasLists d.units.items d.seats.items places d.port.limit)
    (sym (ap (λ (k : KeptAside). k.limit) c.wake.ensures.all)) c.self.invariant

pub returns : goal.returns
returns c shared m sound =
    let d = c.self.inside in
    turns_seen shared m _ _ Event.Wake c.wake.result _ c.self.view_is
    (wakes (standing shared m (the_view d)) d.jobs_aside.limit c.wake.new.self c.wake.result c.wake.ensures.all
    c.wake.ensures.told)
