use Rattle.std.proofs.Common.{◌≡◌, List, ℕ, inl, inr, refl, sym, ap, ◌∙◌}
use Rattle.device_steps.specs.Apart.{PlainDevice, standing, Stored}
use Rattle.device_model.specs.Events.{Event}
use Rattle.device_model.specs.Applies.{Applies}
use Rattle.device_steps.specs.Inner.Cursors.{of_function}
use Rattle.device_steps.proofs.Choosing.{option_none, none_open}
use Rattle.device_steps.proofs.InMemory.{none_known}
use Rattle.device_steps.proofs.EachTurn.{did_in, idle_in, alone_idle, first_in, alone_true, alone_first}
use Rattle.device_steps.proofs.device.Device.turn_function.Goals as goal

pub returns-then-is_none-clause-turns : goal.returns-then-is_none-clause-turns
returns-then-is_none-clause-turns g c =
    let none = option_none c.self.inside.function c.if-is_none.ensures in
    let closed = ap (λ (d : PlainDevice). d.function) (sym c.self.view_is) ∙ none in
    let x = c.args.memory.now in (
      refl,
      (λ m may. (may, none_open (standing g.M.Memory.shared m c.args.self.now) closed)),
      none_known g.M.Memory.stored g.M.Memory.storing g.met.M.Memory.none x x refl,
    )

pub returns-then-answered-clause-turns : goal.returns-then-answered-clause-turns
returns-then-answered-clause-turns g c =
    let shared = g.M.Memory.shared in
    let before = g.M.Memory.may_be c.args.memory.now in
    let after = g.M.Memory.may_be c.answer_tmf_in-answered.new.memory in
    let stored = Stored g.M.Memory.stored g.M.Memory.storing c.args.memory.now c.answer_tmf_in-answered.new.memory in
    let d = c.args.self.now in
    let d' = c.answer_tmf_in-answered.new.self in
    first_in shared before before after stored of_function Event.AnswerTmf d d d' refl (λ m may. (may, λ a. inl (a, refl)))
    (did_in shared before after stored d Event.AnswerTmf c.answer_tmf_in-answered.result d' c.if-answered.true
    c.answer_tmf_in-answered.ensures.turns)

pub returns-then-check-clause-turns : goal.returns-then-check-clause-turns
returns-then-check-clause-turns g c =
    let shared = g.M.Memory.shared in
    let before = g.M.Memory.may_be c.args.memory.now in
    let after = g.M.Memory.may_be c.answer_tmf_in-answered.new.memory in
    let stored = Stored g.M.Memory.stored g.M.Memory.storing c.args.memory.now c.answer_tmf_in-answered.new.memory in
    let d = c.args.self.now in
    let v = c.answer_tmf_in-answered.new.self in
    let first = idle_in shared before after stored d Event.AnswerTmf c.answer_tmf_in-answered.result v c.if-answered.false
    c.size-bytes.ensures.some c.answer_tmf_in-answered.ensures.turns in
    alone_true shared before after stored of_function Event.Check d v c.check.result c.check.new.self first.2 c.if-check.true first.0 tt
    c.requires.ready.sound (λ m may. let f = first.1 m may in (f.0, λ a. inr (f.1, inl (a, refl)))) c.check.ensures

pub returns-clause-turns : goal.returns-clause-turns
returns-clause-turns g c =
    let shared = g.M.Memory.shared in
    let before = g.M.Memory.may_be c.args.memory.now in
    let after = g.M.Memory.may_be c.answer_tmf_in-answered.new.memory in
    let stored = Stored g.M.Memory.stored g.M.Memory.storing c.args.memory.now c.answer_tmf_in-answered.new.memory in
    let d = c.args.self.now in
    let v = c.answer_tmf_in-answered.new.self in
    let u = c.check.new.self in
    let some = c.size-bytes.ensures.some in
    let sound = c.requires.ready.sound in
    let first = idle_in shared before after stored d Event.AnswerTmf c.answer_tmf_in-answered.result v c.if-answered.false some
    c.answer_tmf_in-answered.ensures.turns in
    let second : (m : List ℕ) → after m → (u ≡ d) × (Applies (standing shared m d) Event.Check → ⊥) =
    λ m may.
    alone_idle shared m d v Event.Check c.check.result u c.if-check.false first.0 (sound m (first.1 m may).0) c.check.ensures in
    alone_first shared before after stored of_function Event.Mark d u c.mark.result c.mark.new.self first.2 (second some.0 some.1).0 tt some sound
    (λ m may.
    let f = first.1 m may in
    let h = (second m may).1 in
    (f.0, ((λ a. inr (f.1, inr (h, inl (a, refl)))), (λ never. (f.1, (h, (never, tt))))))) c.mark.ensures

pub returns-then-is_none-clause-room : goal.returns-then-is_none-clause-room
returns-then-is_none-clause-room g c = λ n le h. h

pub returns-then-answered-clause-room : goal.returns-then-answered-clause-room
returns-then-answered-clause-room g c = c.answer_tmf_in-answered.ensures.room

pub returns-then-check-clause-room : goal.returns-then-check-clause-room
returns-then-check-clause-room g c = c.answer_tmf_in-answered.ensures.room

pub returns-clause-room : goal.returns-clause-room
returns-clause-room g c = c.answer_tmf_in-answered.ensures.room
