use Rattle.std.proofs.Common.{◌<◌, List, refl}
use Rattle.std.proofs.lemmas.Option.{slice_get_read}
use Rattle.std.specs.Prelude.{slice_set}
use Rattle.device_model.specs.Events.{Event}
use Rattle.phases.specs.Inner.InMemory.{RespondsIn}
use Rattle.phases.specs.Slots.{slot_of}
use Rattle.phases.specs.Queue.{with_slot}
use Rattle.ring_core.specs.Writes.{Write}
use Rattle.device_steps.specs.Apart.{standing, Stored, TurnsSeen}
use Rattle.device_steps.specs.contracts.device.Device.{the_view}
use Rattle.device_steps.proofs.Setting.{sound_seen}
use Rattle.device_steps.proofs.Placing.{some_there}
use Rattle.device_steps.proofs.InMemory.{each_from, fits_at}
use Rattle.device_steps.proofs.Responds.{with_three, respond_turns}
use Rattle.device_steps.proofs.device.Device.answer_tmf_in.Goals as goal

pub returns-clause-turns : goal.returns-clause-turns
returns-clause-turns g c =
    let d = c.self.inside in
    let within : 0 < d.bays.len = some_there d.bays.len c.if-is_empty.ensures in
    let at = slice_get_read d.bays.items d.bays.len 0 c.index_mut.result.now d.bays.ok.0 within
    c.index_mut.ensures.value in
    let here = rw (← c.behind-self.view_is) at at in
    let slot = slot_of c.behind-self.inside.slot in
    let q = c.behind-self.inside.queue in
    let r = c.phase_answer_tmf_in.new.queue in
    let f = c.phase_answer_tmf_in.new.function in
    let did = c.phase_answer_tmf_in.result in
    let shared = g.M.Memory.shared in
    let stored : List Write → Type 0 = Stored g.M.Memory.stored g.M.Memory.storing c.args.memory.now c.phase_answer_tmf_in.new.memory in
    rw (← c.self.view_is)
    (each_from shared (g.M.Memory.may_be c.args.memory.now) (g.M.Memory.may_be c.phase_answer_tmf_in.new.memory)
    (λ m left n. RespondsIn shared d.function q m did r left n f)
    (λ m left n.
    let w = standing shared m (the_view d) in
    TurnsSeen stored n w Event.AnswerTmf did (with_three left (slice_set w.queues 0 (with_slot slot r)) f w))
    (λ m left n was h.
    let fits = fits_at (g.M.Memory.extent c.args.memory.now) m _ _ c.self.view_is
    (g.met.M.Memory.sized c.args.memory.now m was) c.requires.fits in
    respond_turns stored (standing shared m (the_view d)) 0 slot q r left n f did
    (sound_seen shared m _ _ c.self.view_is (c.requires.sound m was)) refl here (fits 0 _ here)
    c.phase_answer_tmf_in.ensures.stores h)
    c.phase_answer_tmf_in.ensures.responds)
