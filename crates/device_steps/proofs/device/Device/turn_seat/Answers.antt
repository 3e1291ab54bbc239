use Rattle.std.proofs.Common.{◌≡◌, ◌∙◌, false, [], refl, sym, subst, length, arith}
use Rattle.device_model.specs.Events.{Event}
use Rattle.device_model.specs.Found.{HasHand}
use Rattle.device_model.specs.Order.{of_seat}
use Rattle.device_steps.specs.Apart.{PlainDevice, standing, Stored}
use Rattle.device_steps.specs.Kept.{KeptSeat}
use Rattle.device_steps.specs.contracts.device.Device.{the_view}
use Rattle.device_steps.proofs.InMemory.{alone_in, none_known}
use Rattle.device_steps.proofs.Seats.{found, shown}
use Rattle.device_steps.proofs.EachTurn.{first_by, alone_anywhere}
use Rattle.device_steps.proofs.Stages as stages
use Rattle.device_steps.proofs.device.Device.turn_seat.Goals as goal

pub turn_free-requires : goal.turn_free-requires
turn_free-requires g c =
    let d = c.self.inside in
    let k = c.args.number in
    let s : KeptSeat = c.index.result.now in
    let ready = c.requires.ready in
    let size : c.len.result ≡ length d.seats.items = omega (arith, d.seats.ok.0, c.len.ensures) in
    let at = found d.seats.items c.len.result k s s size c.if-at-len.false c.index.ensures refl in
    let there = subst (λ (z : PlainDevice). HasHand (standing false [] z) k s.hand) c.self.view_is
    (s.jobs, shown (standing false [] (the_view d)) d.seats.items k s refl at) in
    record {
      sound = (g.M.Memory.shared, (ready.some.0, ready.sound ready.some.0 ready.some.1));
      free = stages.free_hand (standing false [] c.args.self.now) k s.hand there (sym c.stage.ensures ∙ c.in-Empty.is);
    }

pub returns-in-Empty-clause-turns : goal.returns-in-Empty-clause-turns
returns-in-Empty-clause-turns g c =
    alone_anywhere g.M.Memory.shared (g.M.Memory.may_be c.args.memory.now)
    (Stored g.M.Memory.stored g.M.Memory.storing c.args.memory.now c.args.memory.now) (of_seat c.args.number) c.args.self.now
    c.turn_free.result c.turn_free.new.self
    (none_known g.M.Memory.stored g.M.Memory.storing g.met.M.Memory.none c.args.memory.now c.args.memory.now refl)
    c.requires.ready.some c.requires.ready.sound c.turn_free.ensures

pub returns-in-Answered-clause-turns : goal.returns-in-Answered-clause-turns
returns-in-Answered-clause-turns g c =
    let d = c.self.inside in
    let k = c.args.number in
    let s : KeptSeat = c.index.result.now in
    let size : c.len.result ≡ length d.seats.items = omega (arith, d.seats.ok.0, c.len.ensures) in
    let at = found d.seats.items c.len.result k s s size c.if-at-len.false c.index.ensures refl in
    let there = subst (λ (z : PlainDevice). HasHand (standing false [] z) k s.hand) c.self.view_is
    (s.jobs, shown (standing false [] (the_view d)) d.seats.items k s refl at) in
    let is = sym c.stage.ensures ∙ c.in-Answered.is in
    let shared = g.M.Memory.shared in
    let x = c.args.memory.now in
    let may_be = g.M.Memory.may_be x in
    let stored = Stored g.M.Memory.stored g.M.Memory.storing x x in
    let nothing = none_known g.M.Memory.stored g.M.Memory.storing g.met.M.Memory.none x x refl in
    first_by shared may_be may_be stored (of_seat k) (Event.Leave k) c.args.self.now c.leave.result c.leave.new.self
    c.requires.ready.some
    (λ m may.
    let w = standing shared m c.args.self.now in
    (stages.leave_there w k s.hand there is, stages.leaves_first w k s.hand there is))
    (alone_in shared may_be stored c.args.self.now (Event.Leave k) c.leave.result c.leave.new.self nothing tt c.requires.ready.sound
    c.leave.ensures)

pub returns-in-Taken-clause-turns : goal.returns-in-Taken-clause-turns
returns-in-Taken-clause-turns g c =
    let d = c.self.inside in
    let k = c.args.number in
    let s : KeptSeat = c.index.result.now in
    let size : c.len.result ≡ length d.seats.items = omega (arith, d.seats.ok.0, c.len.ensures) in
    let at = found d.seats.items c.len.result k s s size c.if-at-len.false c.index.ensures refl in
    let there = subst (λ (z : PlainDevice). HasHand (standing false [] z) k s.hand) c.self.view_is
    (s.jobs, shown (standing false [] (the_view d)) d.seats.items k s refl at) in
    let is = sym c.stage.ensures ∙ c.in-Taken.is in
    let shared = g.M.Memory.shared in
    let x = c.args.memory.now in
    let may_be = g.M.Memory.may_be x in
    let stored = Stored g.M.Memory.stored g.M.Memory.storing x x in
    let nothing = none_known g.M.Memory.stored g.M.Memory.storing g.met.M.Memory.none x x refl in
    first_by shared may_be may_be stored (of_seat k) (Event.Commit k) c.args.self.now c.commit.result c.commit.new.self
    c.requires.ready.some
    (λ m may.
    let w = standing shared m c.args.self.now in
    (stages.commit_there w k s.hand there is, stages.commits_first w k s.hand there is))
    (alone_in shared may_be stored c.args.self.now (Event.Commit k) c.commit.result c.commit.new.self nothing tt c.requires.ready.sound
    c.commit.ensures)

pub returns-in-Done-clause-turns : goal.returns-in-Done-clause-turns
returns-in-Done-clause-turns g c =
    let d = c.self.inside in
    let k = c.args.number in
    let s : KeptSeat = c.index.result.now in
    let size : c.len.result ≡ length d.seats.items = omega (arith, d.seats.ok.0, c.len.ensures) in
    let at = found d.seats.items c.len.result k s s size c.if-at-len.false c.index.ensures refl in
    let there = subst (λ (z : PlainDevice). HasHand (standing false [] z) k s.hand) c.self.view_is
    (s.jobs, shown (standing false [] (the_view d)) d.seats.items k s refl at) in
    let is = sym c.stage.ensures ∙ c.in-Done.is in
    let shared = g.M.Memory.shared in
    let answer = c.answer_in-answered in
    first_by shared (g.M.Memory.may_be c.args.memory.now) (g.M.Memory.may_be answer.new.memory)
    (Stored g.M.Memory.stored g.M.Memory.storing c.args.memory.now answer.new.memory) (of_seat k) (Event.Answer k)
    c.args.self.now answer.result answer.new.self c.size-bytes.ensures.some
    (λ m may.
    let w = standing shared m c.args.self.now in
    (stages.answer_there w k s.hand there is, stages.answers_first w k s.hand there is)) answer.ensures.turns
