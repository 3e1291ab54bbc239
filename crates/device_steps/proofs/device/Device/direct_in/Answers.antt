use Rattle.std.proofs.Common.{◌≡◌, List, is_some, sym, subst, length, arith}
use Rattle.device_model.specs.Events.{Event}
use Rattle.phases.specs.Inner.InMemory.{DirectsIn}
use Rattle.phases.specs.Slots.{slot_of}
use Rattle.phases.specs.Queue.{with_slot}
use Rattle.ring_core.specs.Writes.{Write}
use Rattle.device_steps.specs.Apart.{standing, Stored, TurnsSeen}
use Rattle.device_steps.specs.contracts.device.Device.{the_view}
use Rattle.device_steps.proofs.Setting.{sound_seen}
use Rattle.device_steps.proofs.Seats.{found}
use Rattle.device_steps.proofs.InMemory.{each_from, fits_at}
use Rattle.device_steps.proofs.Direct.{with_queue, directs}
use Rattle.device_steps.proofs.device.Device.direct_in.Goals as goal

pub returns-clause-turns : goal.returns-clause-turns
returns-clause-turns g c =
    let d = c.self.inside in
    let many : c.len.result ≡ length d.bays.items = omega (arith, d.bays.ok.0, c.len.ensures) in
    let i = c.args.number in
    let q = c.bay.inside.queue in
    let r = c.phase_direct_in.new.queue in
    let slot = slot_of c.bay.inside.slot in
    let next_slot = slot_of c.phase_direct_in.new.slot in
    let did = is_some c.phase_direct_in.result in
    let there = found d.bays.items c.len.result i (with_slot slot q) c.index_mut-bay.result.now many c.if-at-len.false
    c.index_mut-bay.ensures.value c.bay.view_is in
    let shared = g.M.Memory.shared in
    let stored : List Write → Type 0 = Stored g.M.Memory.stored g.M.Memory.storing c.args.memory.now c.phase_direct_in.new.memory in
    rw (← c.self.view_is)
    (each_from shared (g.M.Memory.may_be c.args.memory.now) (g.M.Memory.may_be c.phase_direct_in.new.memory)
    (λ m left seen. DirectsIn shared slot q m did r left seen next_slot)
    (λ m left seen.
    let w = standing shared m (the_view d) in
    TurnsSeen stored seen w (Event.Direct i) c.is_some.result (with_queue w left i (with_slot next_slot r)))
    (λ m left seen was h.
    let w = standing shared m (the_view d) in
    subst (λ b. TurnsSeen stored seen w (Event.Direct i) b (with_queue w left i (with_slot next_slot r))) (sym c.is_some.ensures)
    (directs stored w i slot next_slot q r left seen did (sound_seen shared m _ _ c.self.view_is (c.requires.sound m was))
    (fits_at (g.M.Memory.extent c.args.memory.now) m _ _ c.self.view_is (g.met.M.Memory.sized c.args.memory.now m was)
    c.requires.fits)
    there c.phase_direct_in.ensures.stores h))
    c.phase_direct_in.ensures.directs)
