use Rattle.std.proofs.Common.{false, sym, subst}
use Rattle.device_model.specs.Events.{Event}
use Rattle.device_steps.specs.Apart.{standing}
use Rattle.device_steps.specs.Sound.{AreFew}
use Rattle.device_steps.specs.Inner.Sound.{IsSound}
use Rattle.world.proofs.Reaching.{steady_by, steady_by_result, alone_steady, alone_steady_result, steps_by, steps_by_result, alone_steps, alone_steps_result}
use Rattle.world.proofs.world.World.step_by.Goals as goal

pub invariant_of-self : goal.invariant_of-self
invariant_of-self c =
    steady_by (standing false c.self.inside.memory c.self.inside.device) (Event.Poke (record { addr = c.in-Poke.addr; bytes = c.as_slice.result.now })) c.poke.result (standing false c.poke.new.memory c.self.inside.device) c.poke.ensures.size c.self.invariant (c.poke.ensures.turns false c.self.inside.device)

pub invariant_of-self-in-Enter : goal.invariant_of-self-in-Enter
invariant_of-self-in-Enter c =
    alone_steady c.self.inside.memory c.self.inside.device (Event.Enter c.in-Enter.queue) c.enter.result c.enter.new.self (subst IsSound (sym c.self.view_is) c.is_sound.ensures.sound) c.self.invariant c.enter.ensures

pub invariant_of-self-in-Direct : goal.invariant_of-self-in-Direct
invariant_of-self-in-Direct c =
    steady_by (standing false c.self.inside.memory c.self.inside.device) (Event.Direct c.in-Direct.queue) c.direct.result (standing false c.direct.new.memory c.direct.new.self) c.direct.ensures.size c.self.invariant c.direct.ensures.turns

pub invariant_of-self-in-Put : goal.invariant_of-self-in-Put
invariant_of-self-in-Put c =
    alone_steady c.self.inside.memory c.self.inside.device (Event.Put c.in-Put.seat) c.put.result c.put.new.self (subst IsSound (sym c.self.view_is) c.is_sound.ensures.sound) c.self.invariant c.put.ensures

pub invariant_of-self-in-Take : goal.invariant_of-self-in-Take
invariant_of-self-in-Take c =
    alone_steady c.self.inside.memory c.self.inside.device (Event.Take c.in-Take.seat) c.take.result c.take.new.self (subst IsSound (sym c.self.view_is) c.is_sound.ensures.sound) c.self.invariant c.take.ensures

pub invariant_of-self-in-Commit : goal.invariant_of-self-in-Commit
invariant_of-self-in-Commit c =
    alone_steady c.self.inside.memory c.self.inside.device (Event.Commit c.in-Commit.seat) c.commit.result c.commit.new.self (subst IsSound (sym c.self.view_is) c.is_sound.ensures.sound) c.self.invariant c.commit.ensures

pub invariant_of-self-in-Answer : goal.invariant_of-self-in-Answer
invariant_of-self-in-Answer c =
    steady_by (standing false c.self.inside.memory c.self.inside.device) (Event.Answer c.in-Answer.seat) c.answer.result (standing false c.answer.new.memory c.answer.new.self) c.answer.ensures.size c.self.invariant c.answer.ensures.turns

pub invariant_of-self-in-Leave : goal.invariant_of-self-in-Leave
invariant_of-self-in-Leave c =
    alone_steady c.self.inside.memory c.self.inside.device (Event.Leave c.in-Leave.seat) c.leave.result c.leave.new.self (subst IsSound (sym c.self.view_is) c.is_sound.ensures.sound) c.self.invariant c.leave.ensures

pub invariant_of-self-in-Mark : goal.invariant_of-self-in-Mark
invariant_of-self-in-Mark c =
    alone_steady c.self.inside.memory c.self.inside.device (Event.Mark) c.mark.result c.mark.new.self (subst IsSound (sym c.self.view_is) c.is_sound.ensures.sound) c.self.invariant c.mark.ensures

pub invariant_of-self-in-Check : goal.invariant_of-self-in-Check
invariant_of-self-in-Check c =
    alone_steady c.self.inside.memory c.self.inside.device (Event.Check) c.check.result c.check.new.self (subst IsSound (sym c.self.view_is) c.is_sound.ensures.sound) c.self.invariant c.check.ensures

pub invariant_of-self-in-AnswerTmf : goal.invariant_of-self-in-AnswerTmf
invariant_of-self-in-AnswerTmf c =
    steady_by (standing false c.self.inside.memory c.self.inside.device) (Event.AnswerTmf) c.answer_tmf.result (standing false c.answer_tmf.new.memory c.answer_tmf.new.self) c.answer_tmf.ensures.size c.self.invariant c.answer_tmf.ensures.turns

pub returns-in-Poke : goal.returns-in-Poke
returns-in-Poke c =
    rw (c.in-Poke.is, ← c.self.view_is) (steps_by (standing false c.self.inside.memory c.self.inside.device) (Event.Poke (record { addr = c.in-Poke.addr; bytes = c.in-Poke.bytes.items })) c.poke.result (standing false c.poke.new.memory c.self.inside.device) (rw (c.as_slice.ensures.value) at (c.poke.ensures.turns false c.self.inside.device)))

pub returns-in-Enter : goal.returns-in-Enter
returns-in-Enter c =
    rw (c.in-Enter.is, ← c.self.view_is) (alone_steps c.self.inside.memory c.self.inside.device (Event.Enter c.in-Enter.queue) c.enter.result c.enter.new.self (subst IsSound (sym c.self.view_is) c.is_sound.ensures.sound) c.enter.ensures)

pub returns-in-Direct : goal.returns-in-Direct
returns-in-Direct c =
    rw (c.in-Direct.is, ← c.self.view_is) (steps_by (standing false c.self.inside.memory c.self.inside.device) (Event.Direct c.in-Direct.queue) c.direct.result (standing false c.direct.new.memory c.direct.new.self) c.direct.ensures.turns)

pub returns-in-Put : goal.returns-in-Put
returns-in-Put c =
    rw (c.in-Put.is, ← c.self.view_is) (alone_steps c.self.inside.memory c.self.inside.device (Event.Put c.in-Put.seat) c.put.result c.put.new.self (subst IsSound (sym c.self.view_is) c.is_sound.ensures.sound) c.put.ensures)

pub returns-in-Take : goal.returns-in-Take
returns-in-Take c =
    rw (c.in-Take.is, ← c.self.view_is) (alone_steps c.self.inside.memory c.self.inside.device (Event.Take c.in-Take.seat) c.take.result c.take.new.self (subst IsSound (sym c.self.view_is) c.is_sound.ensures.sound) c.take.ensures)

pub returns-in-Commit : goal.returns-in-Commit
returns-in-Commit c =
    rw (c.in-Commit.is, ← c.self.view_is) (alone_steps c.self.inside.memory c.self.inside.device (Event.Commit c.in-Commit.seat) c.commit.result c.commit.new.self (subst IsSound (sym c.self.view_is) c.is_sound.ensures.sound) c.commit.ensures)

pub returns-in-Answer : goal.returns-in-Answer
returns-in-Answer c =
    rw (c.in-Answer.is, ← c.self.view_is) (steps_by (standing false c.self.inside.memory c.self.inside.device) (Event.Answer c.in-Answer.seat) c.answer.result (standing false c.answer.new.memory c.answer.new.self) c.answer.ensures.turns)

pub returns-in-Leave : goal.returns-in-Leave
returns-in-Leave c =
    rw (c.in-Leave.is, ← c.self.view_is) (alone_steps c.self.inside.memory c.self.inside.device (Event.Leave c.in-Leave.seat) c.leave.result c.leave.new.self (subst IsSound (sym c.self.view_is) c.is_sound.ensures.sound) c.leave.ensures)

pub returns-in-Mark : goal.returns-in-Mark
returns-in-Mark c =
    rw (c.in-Mark.is, ← c.self.view_is) (alone_steps c.self.inside.memory c.self.inside.device (Event.Mark) c.mark.result c.mark.new.self (subst IsSound (sym c.self.view_is) c.is_sound.ensures.sound) c.mark.ensures)

pub returns-in-Check : goal.returns-in-Check
returns-in-Check c =
    rw (c.in-Check.is, ← c.self.view_is) (alone_steps c.self.inside.memory c.self.inside.device (Event.Check) c.check.result c.check.new.self (subst IsSound (sym c.self.view_is) c.is_sound.ensures.sound) c.check.ensures)

pub returns-in-AnswerTmf : goal.returns-in-AnswerTmf
returns-in-AnswerTmf c =
    rw (c.in-AnswerTmf.is, ← c.self.view_is) (steps_by (standing false c.self.inside.memory c.self.inside.device) (Event.AnswerTmf) c.answer_tmf.result (standing false c.answer_tmf.new.memory c.answer_tmf.new.self) c.answer_tmf.ensures.turns)

pub invariant_of-self-in-Fetch : goal.invariant_of-self-in-Fetch
invariant_of-self-in-Fetch c =
    steady_by_result (standing false c.self.inside.memory c.self.inside.device) (Event.Fetch c.in-Fetch.queue) c.fetch.result (standing false c.fetch.new.memory c.fetch.new.self) c.fetch.ensures.size c.self.invariant c.fetch.ensures.turns

pub invariant_of-self-in-Hard : goal.invariant_of-self-in-Hard
invariant_of-self-in-Hard c =
    alone_steady_result c.self.inside.memory c.self.inside.device (Event.Hard c.in-Hard.unit_index) c.hard.result c.hard.new.self (subst IsSound (sym c.self.view_is) c.is_sound.ensures.sound) (subst AreFew (sym c.self.view_is) c.is_sound.ensures.few) c.self.invariant c.hard.ensures

pub invariant_of-self-in-Raise : goal.invariant_of-self-in-Raise
invariant_of-self-in-Raise c =
    steady_by (standing false c.self.inside.memory c.self.inside.device) Event.Raise c.raise.result (standing false c.raise.new.memory c.raise.new.self) c.raise.ensures.size c.self.invariant c.raise.ensures.turns

pub returns-in-Fetch : goal.returns-in-Fetch
returns-in-Fetch c =
    rw (c.in-Fetch.is, ← c.self.view_is) (steps_by_result (standing false c.self.inside.memory c.self.inside.device) (Event.Fetch c.in-Fetch.queue) c.fetch.result (standing false c.fetch.new.memory c.fetch.new.self) c.fetch.ensures.turns)

pub returns-in-Hard : goal.returns-in-Hard
returns-in-Hard c =
    rw (c.in-Hard.is, ← c.self.view_is) (alone_steps_result c.self.inside.memory c.self.inside.device (Event.Hard c.in-Hard.unit_index) c.hard.result c.hard.new.self (subst IsSound (sym c.self.view_is) c.is_sound.ensures.sound) (subst AreFew (sym c.self.view_is) c.is_sound.ensures.few) c.hard.ensures)

pub returns-in-Raise : goal.returns-in-Raise
returns-in-Raise c =
    rw (c.in-Raise.is, ← c.self.view_is) (steps_by (standing false c.self.inside.memory c.self.inside.device) Event.Raise c.raise.result (standing false c.raise.new.memory c.raise.new.self) c.raise.ensures.turns)

pub invariant_of-self-in-Prepare : goal.invariant_of-self-in-Prepare
invariant_of-self-in-Prepare c =
    alone_steady c.self.inside.memory c.self.inside.device (Event.Prepare c.in-Prepare.seat) c.prepare.result c.prepare.new.self (subst IsSound (sym c.self.view_is) c.is_sound.ensures.sound) c.self.invariant c.prepare.ensures

pub returns-in-Prepare : goal.returns-in-Prepare
returns-in-Prepare c =
    rw (c.in-Prepare.is, ← c.self.view_is) (alone_steps c.self.inside.memory c.self.inside.device (Event.Prepare c.in-Prepare.seat) c.prepare.result c.prepare.new.self (subst IsSound (sym c.self.view_is) c.is_sound.ensures.sound) c.prepare.ensures)

pub invariant_of-self-in-Resize : goal.invariant_of-self-in-Resize
invariant_of-self-in-Resize c =
    alone_steady_result c.self.inside.memory c.self.inside.device (Event.Resize c.in-Resize.unit_index c.in-Resize.blocks) c.resize.result c.resize.new.self (subst IsSound (sym c.self.view_is) c.is_sound.ensures.sound) (subst AreFew (sym c.self.view_is) c.is_sound.ensures.few) c.self.invariant c.resize.ensures

pub returns-in-Resize : goal.returns-in-Resize
returns-in-Resize c =
    rw (c.in-Resize.is, ← c.self.view_is) (alone_steps_result c.self.inside.memory c.self.inside.device (Event.Resize c.in-Resize.unit_index c.in-Resize.blocks) c.resize.result c.resize.new.self (subst IsSound (sym c.self.view_is) c.is_sound.ensures.sound) (subst AreFew (sym c.self.view_is) c.is_sound.ensures.few) c.resize.ensures)

pub invariant_of-self-in-Wake : goal.invariant_of-self-in-Wake
invariant_of-self-in-Wake c =
    alone_steady c.self.inside.memory c.self.inside.device Event.Wake c.wake.result c.wake.new.self (subst IsSound (sym c.self.view_is) c.is_sound.ensures.sound) c.self.invariant c.wake.ensures

pub returns-in-Wake : goal.returns-in-Wake
returns-in-Wake c =
    rw (c.in-Wake.is, ← c.self.view_is) (alone_steps c.self.inside.memory c.self.inside.device Event.Wake c.wake.result c.wake.new.self (subst IsSound (sym c.self.view_is) c.is_sound.ensures.sound) c.wake.ensures)

pub invariant_of-self-in-Resume : goal.invariant_of-self-in-Resume
invariant_of-self-in-Resume c =
    alone_steady c.self.inside.memory c.self.inside.device (Event.Resume c.in-Resume.seat) c.resume.result c.resume.new.self (subst IsSound (sym c.self.view_is) c.is_sound.ensures.sound) c.self.invariant c.resume.ensures

pub returns-in-Resume : goal.returns-in-Resume
returns-in-Resume c =
    rw (c.in-Resume.is, ← c.self.view_is) (alone_steps c.self.inside.memory c.self.inside.device (Event.Resume c.in-Resume.seat) c.resume.result c.resume.new.self (subst IsSound (sym c.self.view_is) c.is_sound.ensures.sound) c.resume.ensures)
