use Rattle.std.proofs.Common.{◌<◌, ◌≤◌, ℕ, List, length, refl, arith}
use Rattle.std.specs.Prelude.{slice_set}
use Rattle.std.proofs.lemmas.Option.{slice_get_read, slice_get_within}
use Rattle.device_model.specs.Events.{Event}
use Rattle.phases.specs.Slots.{slot_of}
use Rattle.phases.specs.Queue.{with_slot}
use Rattle.ring_core.specs.Writes.{Write}
use Rattle.device_steps.specs.Apart.{PlainDevice, standing, Stored, TurnsSeenOrWants}
use Rattle.device_steps.specs.contracts.device.Device.{the_view}
use Rattle.device_steps.proofs.Fetches.{control_turns, with_both}
use Rattle.device_steps.proofs.Placing.{some_there, none_there}
use Rattle.device_steps.proofs.Setting.{sound_seen}
use Rattle.device_steps.proofs.InMemory.{fetch_seen, fits_at, none_known}
use Rattle.device_steps.proofs.Once.{other_once, idle_once}
use Rattle.phases.proofs.Behind.{each_read}
use Rattle.device_steps.proofs.device.Device.fetch_control.Goals as goal

pub returns-clause-turns : goal.returns-clause-turns
returns-clause-turns g c =
    let d = c.self.inside in
    let k : ℕ = 0 in
    let within : k < d.bays.len = some_there d.bays.len c.if-is_empty.ensures in
    let at = slice_get_read d.bays.items d.bays.len k c.index_mut-bay.result.now d.bays.ok.0 within
    c.index_mut-bay.ensures.value in
    let here = rw (← c.bay.view_is) at at in
    let fetch = c.phase_fetch_control_in in
    let q' = with_slot (slot_of fetch.new.slot) fetch.new.queue in
    let shared = g.M.Memory.shared in
    let stored : List Write → Type 0 = Stored g.M.Memory.stored g.M.Memory.storing c.args.memory.now fetch.new.memory in
    rw (← c.self.view_is)
    (each_read shared (g.M.Memory.may_be c.args.memory.now) (g.M.Memory.may_be fetch.new.memory)
    (λ m left seen. TurnsSeenOrWants stored seen (standing shared m (the_view d)) (Event.Fetch 0) fetch.result
    (with_both (slice_set (the_view d).queues k q') fetch.new.function (standing shared left (the_view d))))
    fetch.ensures.stays
    (λ m may.
    let was = fetch.ensures.stays m may in
    let fits = fits_at (g.M.Memory.extent c.args.memory.now) m _ _ c.self.view_is
    (g.met.M.Memory.sized c.args.memory.now m was) c.requires.fits in
    fetch_seen stored (standing shared m (the_view d)) 0 fetch.result _
    (none_known g.M.Memory.stored g.M.Memory.storing g.met.M.Memory.none c.args.memory.now fetch.new.memory fetch.ensures.stores)
    (λ one. omega (arith, one))
    (control_turns (standing shared m (the_view d)) k _ _ _ fetch.result
    (sound_seen shared m _ _ c.self.view_is (c.requires.sound m was)) refl here (fits k _ here)
    (fetch.ensures.fetches m may))))

pub returns-clause-once : goal.returns-clause-once
returns-clause-once g c =
    let x = c.args.memory.now in
    let fetch = c.phase_fetch_control_in in
    let q' = with_slot (slot_of fetch.new.slot) fetch.new.queue in
    let v = the_view c.self.inside in
    let v' : PlainDevice = record v { queues = slice_set v.queues 0 q'; function = fetch.new.function } in
    other_once g.M.Memory.shared g.M.Memory.may_be (Stored g.M.Memory.stored g.M.Memory.storing x fetch.new.memory) x
    c.args.self.now 0 fetch.result fetch.new.memory v' (λ one. omega (arith, one)) fetch.ensures.stays (returns-clause-turns g c)

pub returns-then-is_empty-clause-once : goal.returns-then-is_empty-clause-once
returns-then-is_empty-clause-once g c =
    let d = c.self.inside in
    let x = c.args.memory.now in
    let none : length d.bays.items ≤ 0 = omega (arith, none_there d.bays.len c.if-is_empty.ensures, d.bays.ok.0) in
    rw (← c.self.view_is)
    (idle_once g.M.Memory.shared g.M.Memory.may_be (Stored g.M.Memory.stored g.M.Memory.storing x x) x (the_view d) 0 x
    (none_known g.M.Memory.stored g.M.Memory.storing g.met.M.Memory.none x x refl) (λ m may. may)
    (λ m may h. omega (arith, slice_get_within d.bays.items 0 h.queue h.there, none)))
