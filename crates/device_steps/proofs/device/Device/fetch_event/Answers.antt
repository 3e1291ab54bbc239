use Rattle.std.proofs.Common.{◌≡◌, ◌<◌, List, refl, ◌∙◌, arith}
use Rattle.ring_core.specs.Writes.{Write, stores_of}
use Rattle.std.specs.Prelude.{slice_set}
use Rattle.std.proofs.lemmas.Option.{slice_get_read}
use Rattle.device_model.specs.Events.{Event}
use Rattle.phases.specs.Inner.EventsInMemory.{FetchesEventIn}
use Rattle.phases.specs.Slots.{slot_of}
use Rattle.phases.specs.Queue.{with_slot}
use Rattle.device_steps.specs.Apart.{standing, TurnsSeenOrWants}
use Rattle.device_steps.specs.contracts.device.Device.{the_view}
use Rattle.device_steps.proofs.Buffering.{with_port, event_turns, event_limit, may_hold}
use Rattle.device_steps.proofs.Setting.{sound_seen}
use Rattle.device_steps.proofs.InMemory.{each_from, few_in, fits_at}
use Rattle.device_steps.proofs.Once.{once_from}
use Rattle.device_steps.proofs.device.Device.fetch_event.Goals as goal

pub invariant_of-self : goal.invariant_of-self
invariant_of-self g c =
    let d = c.self.inside in
    let some = c.size-bytes.ensures.some in
    let r = c.phase_fetch_event_in-fetched.ensures.fetches some.0 some.1 in
    let stored : List Write → Type 0 =
    λ ws. g.M.Memory.stored c.phase_fetch_event_in-fetched.new.memory ≡ g.M.Memory.storing (g.M.Memory.stored c.args.memory.now) (stores_of ws) in
    record {
      limits = c.self.invariant.limits;
      aside = c.self.invariant.aside;
      port = event_limit g.M.Memory.shared stored _ _ r.0 r.2.0 some.0 d.port _ c.phase_fetch_event_in-fetched.result r.2.2
          ∙ c.self.invariant.port;
    }

pub returns-clause-turns : goal.returns-clause-turns
returns-clause-turns g c =
    let d = c.self.inside in
    let fetch = c.phase_fetch_event_in-fetched in
    let few = rw (← c.self.view_is) at c.requires.few in
    let within : 1 < d.bays.len = omega (arith, few.several, d.bays.ok.0) in
    let at = slice_get_read d.bays.items d.bays.len 1 c.index_mut-bay.result.now d.bays.ok.0 within
    c.index_mut-bay.ensures.value in
    let here = rw (← c.bay.view_is) at at in
    let slot = slot_of c.bay.inside.slot in
    let q = with_slot slot c.bay.inside.queue in
    let q' = with_slot slot fetch.new.queue in
    let shared = g.M.Memory.shared in
    let stored : List Write → Type 0 = λ ws. g.M.Memory.stored fetch.new.memory ≡ g.M.Memory.storing (g.M.Memory.stored c.args.memory.now) (stores_of ws) in
    rw (← c.self.view_is)
    (each_from shared (g.M.Memory.may_be c.args.memory.now) (g.M.Memory.may_be fetch.new.memory)
    (λ m left n. FetchesEventIn shared stored q m d.port fetch.result q' left n fetch.new.port)
    (λ m left n.
    let w = standing shared m (the_view d) in
    TurnsSeenOrWants stored n w (Event.Fetch 1) fetch.result (with_port left (slice_set w.queues 1 q') fetch.new.port w))
    (λ m left n was h.
    let w = standing shared m (the_view d) in
    let sound = sound_seen shared m _ _ c.self.view_is (c.requires.sound m was) in
    let fits = fits_at (g.M.Memory.extent c.args.memory.now) m _ _ c.self.view_is
    (g.met.M.Memory.sized c.args.memory.now m was) c.requires.fits in
    event_turns w 1 q q' left n d.port fetch.new.port refl here refl refl stored fetch.result sound (fits 1 _ here)
    (may_hold w 1 q d.port sound (few_in shared m (the_view d) few) refl here refl c.self.invariant.port
    c.log-log.ensures.sound c.log-log.ensures.few)
    h)
    fetch.ensures.fetches)

pub returns-clause-once : goal.returns-clause-once
returns-clause-once g c =
    let d = c.self.inside in
    let fetch = c.phase_fetch_event_in-fetched in
    let few = rw (← c.self.view_is) at c.requires.few in
    let within : 1 < d.bays.len = omega (arith, few.several, d.bays.ok.0) in
    let at = slice_get_read d.bays.items d.bays.len 1 c.index_mut-bay.result.now d.bays.ok.0 within
    c.index_mut-bay.ensures.value in
    let here = rw (← c.bay.view_is) at at in
    let slot = slot_of c.bay.inside.slot in
    let q = with_slot slot c.bay.inside.queue in
    let q' = with_slot slot fetch.new.queue in
    let shared = g.M.Memory.shared in
    let x = c.args.memory.now in
    let stored : List Write → Type 0 = λ ws. g.M.Memory.stored fetch.new.memory ≡ g.M.Memory.storing (g.M.Memory.stored x) (stores_of ws) in
    rw (← c.self.view_is)
    (once_from shared g.M.Memory.may_be x fetch.new.memory
    (λ m left n. FetchesEventIn shared stored q m d.port fetch.result q' left n fetch.new.port)
    (λ m left n.
    let w = standing shared m (the_view d) in
    TurnsSeenOrWants stored n w (Event.Fetch 1) fetch.result (with_port left (slice_set w.queues 1 q') fetch.new.port w))
    (λ m left n was h.
    let w = standing shared m (the_view d) in
    let sound = sound_seen shared m _ _ c.self.view_is (c.requires.sound m was) in
    let fits = fits_at (g.M.Memory.extent x) m _ _ c.self.view_is (g.met.M.Memory.sized x m was) c.requires.fits in
    event_turns w 1 q q' left n d.port fetch.new.port refl here refl refl stored fetch.result sound (fits 1 _ here)
    (may_hold w 1 q d.port sound (few_in shared m (the_view d) few) refl here refl c.self.invariant.port
    c.log-log.ensures.sound c.log-log.ensures.few)
    h)
    fetch.ensures.once)
