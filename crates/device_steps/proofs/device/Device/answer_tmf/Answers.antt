use Rattle.std.proofs.Common.{ℕ, List}
use Rattle.device_model.specs.Events.{Event}
use Rattle.guest_mem.specs.Stores.{all_stored}
use Rattle.device_steps.specs.Apart.{Stored}
use Rattle.device_steps.proofs.InMemory.{sound_own, turns_own}
use Rattle.device_steps.proofs.device.Device.answer_tmf.Goals as goal

pub answer_tmf_in-requires-clause-sound : goal.answer_tmf_in-requires-clause-sound
answer_tmf_in-requires-clause-sound c = sound_own c.args.memory.now c.args.self.now c.requires.sound

pub returns-clause-turns : goal.returns-clause-turns
returns-clause-turns c =
    turns_own (Stored (λ (m : List ℕ). m) all_stored c.args.memory.now c.answer_tmf_in.new.memory) c.args.memory.now
    c.answer_tmf_in.new.memory c.args.self.now Event.AnswerTmf c.answer_tmf_in.result c.answer_tmf_in.new.self
    c.answer_tmf_in.ensures.turns
