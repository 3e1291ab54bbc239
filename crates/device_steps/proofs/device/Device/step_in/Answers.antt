use Rattle.std.proofs.Common.{refl}
use Rattle.device_model.specs.Events.{Event}
use Rattle.device_steps.specs.Apart.{Stored}
use Rattle.device_steps.proofs.InMemory.{alone_in, alone_in_or, none_known}
use Rattle.device_steps.proofs.device.Device.step_in.Goals as goal

pub returns-in-Enter-clause-turns : goal.returns-in-Enter-clause-turns
returns-in-Enter-clause-turns g c =
    rw (c.in-Enter.is)
    (alone_in g.M.Memory.shared (g.M.Memory.may_be c.args.memory.now)
    (Stored g.M.Memory.stored g.M.Memory.storing c.args.memory.now c.args.memory.now) c.args.self.now (Event.Enter c.in-Enter.queue) c.enter.result c.enter.new.self
    (none_known g.M.Memory.stored g.M.Memory.storing g.met.M.Memory.none c.args.memory.now c.args.memory.now refl) tt
    c.requires.sound c.enter.ensures)

pub returns-in-Put-clause-turns : goal.returns-in-Put-clause-turns
returns-in-Put-clause-turns g c =
    rw (c.in-Put.is)
    (alone_in g.M.Memory.shared (g.M.Memory.may_be c.args.memory.now)
    (Stored g.M.Memory.stored g.M.Memory.storing c.args.memory.now c.args.memory.now) c.args.self.now (Event.Put c.in-Put.seat) c.put.result c.put.new.self
    (none_known g.M.Memory.stored g.M.Memory.storing g.met.M.Memory.none c.args.memory.now c.args.memory.now refl) tt
    c.requires.sound c.put.ensures)

pub returns-in-Take-clause-turns : goal.returns-in-Take-clause-turns
returns-in-Take-clause-turns g c =
    rw (c.in-Take.is)
    (alone_in g.M.Memory.shared (g.M.Memory.may_be c.args.memory.now)
    (Stored g.M.Memory.stored g.M.Memory.storing c.args.memory.now c.args.memory.now) c.args.self.now (Event.Take c.in-Take.seat) c.take.result c.take.new.self
    (none_known g.M.Memory.stored g.M.Memory.storing g.met.M.Memory.none c.args.memory.now c.args.memory.now refl) tt
    c.requires.sound c.take.ensures)

pub returns-in-Prepare-clause-turns : goal.returns-in-Prepare-clause-turns
returns-in-Prepare-clause-turns g c =
    rw (c.in-Prepare.is)
    (alone_in g.M.Memory.shared (g.M.Memory.may_be c.args.memory.now)
    (Stored g.M.Memory.stored g.M.Memory.storing c.args.memory.now c.args.memory.now) c.args.self.now (Event.Prepare c.in-Prepare.seat) c.prepare.result c.prepare.new.self
    (none_known g.M.Memory.stored g.M.Memory.storing g.met.M.Memory.none c.args.memory.now c.args.memory.now refl) tt
    c.requires.sound c.prepare.ensures)

pub returns-in-Commit-clause-turns : goal.returns-in-Commit-clause-turns
returns-in-Commit-clause-turns g c =
    rw (c.in-Commit.is)
    (alone_in g.M.Memory.shared (g.M.Memory.may_be c.args.memory.now)
    (Stored g.M.Memory.stored g.M.Memory.storing c.args.memory.now c.args.memory.now) c.args.self.now (Event.Commit c.in-Commit.seat) c.commit.result c.commit.new.self
    (none_known g.M.Memory.stored g.M.Memory.storing g.met.M.Memory.none c.args.memory.now c.args.memory.now refl) tt
    c.requires.sound c.commit.ensures)

pub returns-in-Leave-clause-turns : goal.returns-in-Leave-clause-turns
returns-in-Leave-clause-turns g c =
    rw (c.in-Leave.is)
    (alone_in g.M.Memory.shared (g.M.Memory.may_be c.args.memory.now)
    (Stored g.M.Memory.stored g.M.Memory.storing c.args.memory.now c.args.memory.now) c.args.self.now (Event.Leave c.in-Leave.seat) c.leave.result c.leave.new.self
    (none_known g.M.Memory.stored g.M.Memory.storing g.met.M.Memory.none c.args.memory.now c.args.memory.now refl) tt
    c.requires.sound c.leave.ensures)

pub returns-in-Mark-clause-turns : goal.returns-in-Mark-clause-turns
returns-in-Mark-clause-turns g c =
    rw (c.in-Mark.is)
    (alone_in g.M.Memory.shared (g.M.Memory.may_be c.args.memory.now)
    (Stored g.M.Memory.stored g.M.Memory.storing c.args.memory.now c.args.memory.now) c.args.self.now Event.Mark c.mark.result c.mark.new.self
    (none_known g.M.Memory.stored g.M.Memory.storing g.met.M.Memory.none c.args.memory.now c.args.memory.now refl) tt
    c.requires.sound c.mark.ensures)

pub returns-in-Check-clause-turns : goal.returns-in-Check-clause-turns
returns-in-Check-clause-turns g c =
    rw (c.in-Check.is)
    (alone_in g.M.Memory.shared (g.M.Memory.may_be c.args.memory.now)
    (Stored g.M.Memory.stored g.M.Memory.storing c.args.memory.now c.args.memory.now) c.args.self.now Event.Check c.check.result c.check.new.self
    (none_known g.M.Memory.stored g.M.Memory.storing g.met.M.Memory.none c.args.memory.now c.args.memory.now refl) tt
    c.requires.sound c.check.ensures)

pub returns-in-Hard-clause-turns : goal.returns-in-Hard-clause-turns
returns-in-Hard-clause-turns g c =
    rw (c.in-Hard.is)
    (alone_in_or g.M.Memory.shared (g.M.Memory.may_be c.args.memory.now)
    (Stored g.M.Memory.stored g.M.Memory.storing c.args.memory.now c.args.memory.now) c.args.self.now (Event.Hard c.in-Hard.unit_index) c.hard.result c.hard.new.self
    (none_known g.M.Memory.stored g.M.Memory.storing g.met.M.Memory.none c.args.memory.now c.args.memory.now refl) tt
    c.requires.sound c.requires.few c.hard.ensures)

pub returns-in-Resize-clause-turns : goal.returns-in-Resize-clause-turns
returns-in-Resize-clause-turns g c =
    rw (c.in-Resize.is)
    (alone_in_or g.M.Memory.shared (g.M.Memory.may_be c.args.memory.now)
    (Stored g.M.Memory.stored g.M.Memory.storing c.args.memory.now c.args.memory.now) c.args.self.now (Event.Resize c.in-Resize.unit_index c.in-Resize.blocks) c.resize.result c.resize.new.self
    (none_known g.M.Memory.stored g.M.Memory.storing g.met.M.Memory.none c.args.memory.now c.args.memory.now refl) tt
    c.requires.sound c.requires.few c.resize.ensures)

pub returns-in-Fetch-clause-turns : goal.returns-in-Fetch-clause-turns
returns-in-Fetch-clause-turns g c = rw (c.in-Fetch.is) c.fetch_in.ensures.turns

pub returns-in-Direct-clause-turns : goal.returns-in-Direct-clause-turns
returns-in-Direct-clause-turns g c = rw (c.in-Direct.is) c.direct_in.ensures.turns

pub returns-in-Answer-clause-turns : goal.returns-in-Answer-clause-turns
returns-in-Answer-clause-turns g c = rw (c.in-Answer.is) c.answer_in.ensures.turns

pub returns-in-AnswerTmf-clause-turns : goal.returns-in-AnswerTmf-clause-turns
returns-in-AnswerTmf-clause-turns g c = rw (c.in-AnswerTmf.is) c.answer_tmf_in.ensures.turns

pub returns-in-Raise-clause-turns : goal.returns-in-Raise-clause-turns
returns-in-Raise-clause-turns g c = rw (c.in-Raise.is) c.raise_in.ensures.turns

pub returns-in-Poke-clause-turns : goal.returns-in-Poke-clause-turns
returns-in-Poke-clause-turns g c =
    rw (c.in-Poke.is) (rw (c.as_slice.ensures.value) at (c.poke_in.ensures.turns c.args.self.now))

pub returns-in-Poke-clause-once : goal.returns-in-Poke-clause-once
returns-in-Poke-clause-once g c = rw (c.in-Poke.is) tt

pub returns-in-Enter-clause-once : goal.returns-in-Enter-clause-once
returns-in-Enter-clause-once g c = rw (c.in-Enter.is) tt

pub returns-in-Direct-clause-once : goal.returns-in-Direct-clause-once
returns-in-Direct-clause-once g c = rw (c.in-Direct.is) tt

pub returns-in-Put-clause-once : goal.returns-in-Put-clause-once
returns-in-Put-clause-once g c = rw (c.in-Put.is) tt

pub returns-in-Take-clause-once : goal.returns-in-Take-clause-once
returns-in-Take-clause-once g c = rw (c.in-Take.is) tt

pub returns-in-Prepare-clause-once : goal.returns-in-Prepare-clause-once
returns-in-Prepare-clause-once g c = rw (c.in-Prepare.is) tt

pub returns-in-Commit-clause-once : goal.returns-in-Commit-clause-once
returns-in-Commit-clause-once g c = rw (c.in-Commit.is) tt

pub returns-in-Answer-clause-once : goal.returns-in-Answer-clause-once
returns-in-Answer-clause-once g c = rw (c.in-Answer.is) tt

pub returns-in-Leave-clause-once : goal.returns-in-Leave-clause-once
returns-in-Leave-clause-once g c = rw (c.in-Leave.is) tt

pub returns-in-Mark-clause-once : goal.returns-in-Mark-clause-once
returns-in-Mark-clause-once g c = rw (c.in-Mark.is) tt

pub returns-in-Check-clause-once : goal.returns-in-Check-clause-once
returns-in-Check-clause-once g c = rw (c.in-Check.is) tt

pub returns-in-AnswerTmf-clause-once : goal.returns-in-AnswerTmf-clause-once
returns-in-AnswerTmf-clause-once g c = rw (c.in-AnswerTmf.is) tt

pub returns-in-Hard-clause-once : goal.returns-in-Hard-clause-once
returns-in-Hard-clause-once g c = rw (c.in-Hard.is) tt

pub returns-in-Resize-clause-once : goal.returns-in-Resize-clause-once
returns-in-Resize-clause-once g c = rw (c.in-Resize.is) tt

pub returns-in-Raise-clause-once : goal.returns-in-Raise-clause-once
returns-in-Raise-clause-once g c = rw (c.in-Raise.is) tt

pub returns-in-Fetch-clause-once : goal.returns-in-Fetch-clause-once
returns-in-Fetch-clause-once g c = rw (c.in-Fetch.is) c.fetch_in.ensures.once

pub returns-in-Wake-clause-turns : goal.returns-in-Wake-clause-turns
returns-in-Wake-clause-turns g c =
    rw (c.in-Wake.is)
    (alone_in g.M.Memory.shared (g.M.Memory.may_be c.args.memory.now)
    (Stored g.M.Memory.stored g.M.Memory.storing c.args.memory.now c.args.memory.now) c.args.self.now Event.Wake c.wake.result c.wake.new.self
    (none_known g.M.Memory.stored g.M.Memory.storing g.met.M.Memory.none c.args.memory.now c.args.memory.now refl) tt
    c.requires.sound c.wake.ensures)

pub returns-in-Wake-clause-once : goal.returns-in-Wake-clause-once
returns-in-Wake-clause-once g c = rw (c.in-Wake.is) tt

pub returns-in-Resume-clause-turns : goal.returns-in-Resume-clause-turns
returns-in-Resume-clause-turns g c =
    rw (c.in-Resume.is)
    (alone_in g.M.Memory.shared (g.M.Memory.may_be c.args.memory.now)
    (Stored g.M.Memory.stored g.M.Memory.storing c.args.memory.now c.args.memory.now) c.args.self.now (Event.Resume c.in-Resume.seat) c.resume.result c.resume.new.self
    (none_known g.M.Memory.stored g.M.Memory.storing g.met.M.Memory.none c.args.memory.now c.args.memory.now refl) tt
    c.requires.sound c.resume.ensures)

pub returns-in-Resume-clause-once : goal.returns-in-Resume-clause-once
returns-in-Resume-clause-once g c = rw (c.in-Resume.is) tt
