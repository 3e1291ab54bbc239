use Rattle.std.proofs.Common.{◌≡◌, List, is_some, Some, sym, subst, ap, refl, ◌∙◌, length, arith}
use Rattle.device_model.specs.Events.{Event}
use Rattle.phases.specs.Inner.InMemory.{AnswersIn}
use Rattle.phases.specs.Parts.{answering_queue}
use Rattle.phases.specs.Slots.{slot_of}
use Rattle.phases.specs.Queue.{with_slot}
use Rattle.ring_core.specs.Writes.{Write}
use Rattle.device_steps.specs.Kept.{KeptSeat}
use Rattle.device_steps.specs.Apart.{standing, Stored, TurnsSeen}
use Rattle.device_steps.specs.contracts.device.Device.{the_view}
use Rattle.device_steps.specs.contracts.seat.Seat as seat
use Rattle.device_steps.proofs.Setting.{sound_seen}
use Rattle.device_steps.proofs.InMemory.{each_from, fits_at}
use Rattle.device_steps.proofs.Seats.{keeps_seat, found, one_there, with_queue_and_seat}
use Rattle.device_steps.proofs.Answer.{answers}
use Rattle.device_steps.proofs.device.Device.answer_in.Goals as goal

pub invariant_of-self : goal.invariant_of-self
invariant_of-self g c =
    let d = c.self.inside in
    let size : c.len.result ≡ length d.seats.items = omega (arith, d.seats.ok.0, c.len.ensures) in
    let k = c.args.number in
    let s : KeptSeat = seat.the_view c.behind-self-3.inside in
    let t : KeptSeat = seat.the_view (record { hand = c.phase_answer_in.new.hand; out = c.behind-self-3.inside.out }) in
    let at = found d.seats.items c.len.result k s c.index_mut-2.result.now size c.if-at-len.false
    c.index_mut-2.ensures.value c.behind-self-3.view_is in
    keeps_seat d.units.items d.seats.items k s t at refl c.self.invariant

pub returns-clause-turns : goal.returns-clause-turns
returns-clause-turns g c =
    let d = c.self.inside in
    let size : c.len.result ≡ length d.seats.items = omega (arith, d.seats.ok.0, c.len.ensures) in
    let many : c.len-2.result ≡ length d.bays.items = omega (arith, d.bays.ok.0, c.len-2.ensures) in
    let k = c.args.number in
    let i = c.in-Some.queue in
    let q = c.behind-self-2.inside.queue in
    let r = c.phase_answer_in.new.queue in
    let slot = slot_of c.behind-self-2.inside.slot in
    let did = is_some c.phase_answer_in.result in
    let shared = g.M.Memory.shared in
    let stored : List Write → Type 0 = Stored g.M.Memory.stored g.M.Memory.storing c.args.memory.now c.phase_answer_in.new.memory in
    let seen : KeptSeat = seat.the_view c.behind-self.inside in
    let s : KeptSeat = seat.the_view c.behind-self-3.inside in
    let t : KeptSeat = seat.the_view (record { hand = c.phase_answer_in.new.hand; out = c.behind-self-3.inside.out }) in
    let at_seen = found d.seats.items c.len.result k seen c.index.result.now size c.if-at-len.false
    c.index.ensures c.behind-self.view_is in
    let at = found d.seats.items c.len.result k s c.index_mut-2.result.now size c.if-at-len.false
    c.index_mut-2.ensures.value c.behind-self-3.view_is in
    let there = found d.bays.items c.len-2.result i (with_slot slot q) c.index_mut.result.now many c.if-queue-len.false
    c.index_mut.ensures.value c.behind-self-2.view_is in
    let one = one_there d.seats.items k s seen at at_seen in
    let queue : answering_queue s.hand ≡ Some i =
    ap (λ (z : KeptSeat). answering_queue z.hand) one ∙ sym c.in-Some.ensures in
    rw (← c.self.view_is)
    (each_from shared (g.M.Memory.may_be c.args.memory.now) (g.M.Memory.may_be c.phase_answer_in.new.memory)
    (λ m left n. AnswersIn shared s.hand q m did r left n t.hand)
    (λ m left n.
    let w = standing shared m (the_view d) in
    TurnsSeen stored n w (Event.Answer k) c.is_some.result
    (with_queue_and_seat w left i (with_slot slot r) d.seats.items k t))
    (λ m left n was h.
    let w = standing shared m (the_view d) in
    subst (λ b. TurnsSeen stored n w (Event.Answer k) b (with_queue_and_seat w left i (with_slot slot r) d.seats.items k t))
    (sym c.is_some.ensures)
    (answers stored w d.seats.items k i s.hand s.jobs s.limit slot q r left n t.hand did
    (sound_seen shared m _ _ c.self.view_is (c.requires.sound m was))
    (fits_at (g.M.Memory.extent c.args.memory.now) m _ _ c.self.view_is (g.met.M.Memory.sized c.args.memory.now m was)
    c.requires.fits)
    refl at queue there c.phase_answer_in.ensures.stores h))
    c.phase_answer_in.ensures.answers)
