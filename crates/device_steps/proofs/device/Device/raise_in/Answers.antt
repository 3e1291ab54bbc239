use Rattle.std.proofs.Common.{◌<◌, List, refl, ◌∙◌, arith}
use Rattle.std.specs.Prelude.{slice_set}
use Rattle.std.proofs.lemmas.Option.{slice_get_read}
use Rattle.device_model.specs.Events.{Event}
use Rattle.phases.specs.Inner.EventsInMemory.{RaisesNextIn}
use Rattle.phases.specs.Slots.{slot_of}
use Rattle.phases.specs.Queue.{with_slot}
use Rattle.ring_core.specs.Writes.{Write}
use Rattle.device_steps.specs.Apart.{standing, Stored, TurnsSeen}
use Rattle.device_steps.specs.contracts.device.Device.{the_view}
use Rattle.device_steps.proofs.Setting.{sound_seen}
use Rattle.device_steps.proofs.InMemory.{each_from, fits_at}
use Rattle.device_steps.proofs.Raising.{with_raised, raises, raise_limit}
use Rattle.device_steps.proofs.device.Device.raise_in.Goals as goal

pub invariant_of-self : goal.invariant_of-self
invariant_of-self g c =
    let d = c.self.inside in
    let some = c.size-bytes.ensures.some in
    let r = c.phase_raise_in-raised.ensures.raises some.0 some.1 in
    record {
      limits = c.self.invariant.limits;
      aside = c.self.invariant.aside;
      port = raise_limit g.M.Memory.shared d.waiting _ _ r.0 r.2.0 some.0 d.port _ _ c.phase_raise_in-raised.result r.2.2
          ∙ c.self.invariant.port;
    }

pub returns-clause-turns : goal.returns-clause-turns
returns-clause-turns g c =
    let d = c.self.inside in
    let raise = c.phase_raise_in-raised in
    let few = rw (← c.self.view_is) at c.requires.few in
    let within : 1 < d.bays.len = omega (arith, few.several, d.bays.ok.0) in
    let at = slice_get_read d.bays.items d.bays.len 1 c.index_mut.result.now d.bays.ok.0 within
    c.index_mut.ensures.value in
    let here = rw (← c.behind-self.view_is) at at in
    let slot = slot_of c.behind-self.inside.slot in
    let q = c.behind-self.inside.queue in
    let shared = g.M.Memory.shared in
    let stored : List Write → Type 0 = Stored g.M.Memory.stored g.M.Memory.storing c.args.memory.now raise.new.memory in
    rw (← c.self.view_is)
    (each_from shared (g.M.Memory.may_be c.args.memory.now) (g.M.Memory.may_be raise.new.memory)
    (λ m left n. RaisesNextIn shared d.waiting q m d.port raise.result raise.new.queue left n raise.new.port raise.new.waiting)
    (λ m left n.
    let w = standing shared m (the_view d) in
    TurnsSeen stored n w Event.Raise raise.result
    (with_raised left (slice_set w.queues 1 (with_slot slot raise.new.queue)) raise.new.port raise.new.waiting w))
    (λ m left n was h.
    let fits = fits_at (g.M.Memory.extent c.args.memory.now) m _ _ c.self.view_is
    (g.met.M.Memory.sized c.args.memory.now m was) c.requires.fits in
    raises (standing shared m (the_view d)) 1 slot q raise.new.queue left n d.port raise.new.port raise.new.waiting refl here
    refl refl stored d.waiting raise.result refl (sound_seen shared m _ _ c.self.view_is (c.requires.sound m was))
    (fits 1 _ here) raise.ensures.stores h)
    raise.ensures.raises)
