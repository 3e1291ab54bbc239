use Rattle.std.proofs.Common.{◌<◌, ◌≤◌, List, length, refl, arith}
use Rattle.std.specs.Prelude.{slice_set}
use Rattle.std.proofs.lemmas.Option.{slice_get_read, slice_get_within}
use Rattle.device_model.specs.Events.{Event}
use Rattle.phases.specs.Slots.{slot_of}
use Rattle.phases.specs.Queue.{with_slot}
use Rattle.ring_core.specs.Writes.{Write}
use Rattle.device_steps.specs.Apart.{PlainDevice, standing, Stored, TurnsSeenOrWants}
use Rattle.device_steps.specs.contracts.device.Device.{the_view}
use Rattle.device_steps.proofs.Fetches.{request_turns, with_queues}
use Rattle.device_steps.proofs.Setting.{sound_seen}
use Rattle.device_steps.proofs.InMemory.{fetch_seen, fits_at, none_known}
use Rattle.device_steps.proofs.Once.{other_once, idle_once}
use Rattle.phases.proofs.Behind.{each_read}
use Rattle.device_steps.proofs.device.Device.fetch_request.Goals as goal

pub returns-clause-turns : goal.returns-clause-turns
returns-clause-turns g c =
    let d = c.self.inside in
    let k = c.args.number in
    let within : k < d.bays.len = omega (arith, c.len.ensures, c.if-at-len.false) in
    let at = slice_get_read d.bays.items d.bays.len k c.index_mut-bay.result.now d.bays.ok.0 within
    c.index_mut-bay.ensures.value in
    let here = rw (← c.bay.view_is) at at in
    let q' = with_slot (slot_of c.phase_fetch_in.new.slot) c.phase_fetch_in.new.queue in
    let shared = g.M.Memory.shared in
    let fetch = c.phase_fetch_in in
    let stored : List Write → Type 0 = Stored g.M.Memory.stored g.M.Memory.storing c.args.memory.now fetch.new.memory in
    rw (← c.self.view_is)
    (each_read shared (g.M.Memory.may_be c.args.memory.now) (g.M.Memory.may_be fetch.new.memory)
    (λ m left seen. TurnsSeenOrWants stored seen (standing shared m (the_view d)) (Event.Fetch k) fetch.result
    (with_queues (slice_set (the_view d).queues k q') (standing shared left (the_view d))))
    fetch.ensures.stays
    (λ m may.
    let was = fetch.ensures.stays m may in
    let fits = fits_at (g.M.Memory.extent c.args.memory.now) m _ _ c.self.view_is
    (g.met.M.Memory.sized c.args.memory.now m was) c.requires.fits in
    fetch_seen stored (standing shared m (the_view d)) k fetch.result _
    (none_known g.M.Memory.stored g.M.Memory.storing g.met.M.Memory.none c.args.memory.now fetch.new.memory fetch.ensures.stores)
    (λ one. omega (arith, one, c.requires.request))
    (request_turns (standing shared m (the_view d)) k _ _ fetch.result
    (sound_seen shared m _ _ c.self.view_is (c.requires.sound m was)) c.requires.request here (fits k _ here)
    (fetch.ensures.fetches m may))))

pub returns-clause-once : goal.returns-clause-once
returns-clause-once g c =
    let k = c.args.number in
    let x = c.args.memory.now in
    let fetch = c.phase_fetch_in in
    let q' = with_slot (slot_of fetch.new.slot) fetch.new.queue in
    let v = the_view c.self.inside in
    let v' : PlainDevice = record v { queues = slice_set v.queues k q' } in
    other_once g.M.Memory.shared g.M.Memory.may_be (Stored g.M.Memory.stored g.M.Memory.storing x fetch.new.memory) x
    c.args.self.now k fetch.result fetch.new.memory v' (λ one. omega (arith, one, c.requires.request)) fetch.ensures.stays
    (returns-clause-turns g c)

pub returns-then-at-len-clause-once : goal.returns-then-at-len-clause-once
returns-then-at-len-clause-once g c =
    let d = c.self.inside in
    let k = c.args.number in
    let x = c.args.memory.now in
    let many : length d.bays.items ≤ k = omega (arith, c.if-at-len.true, c.len.ensures, d.bays.ok.0) in
    rw (← c.self.view_is)
    (idle_once g.M.Memory.shared g.M.Memory.may_be (Stored g.M.Memory.stored g.M.Memory.storing x x) x (the_view d) k x
    (none_known g.M.Memory.stored g.M.Memory.storing g.met.M.Memory.none x x refl) (λ m may. may)
    (λ m may h. omega (arith, slice_get_within d.bays.items k h.queue h.there, many)))
