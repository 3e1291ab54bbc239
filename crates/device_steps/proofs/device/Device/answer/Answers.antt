use Rattle.std.proofs.Common.{ℕ, List}
use Rattle.device_model.specs.Events.{Event}
use Rattle.guest_mem.specs.Stores.{all_stored}
use Rattle.device_steps.specs.Apart.{Stored}
use Rattle.device_steps.proofs.InMemory.{sound_own, turns_own}
use Rattle.device_steps.proofs.device.Device.answer.Goals as goal

pub answer_in-requires-clause-sound : goal.answer_in-requires-clause-sound
answer_in-requires-clause-sound c = sound_own c.args.memory.now c.args.self.now c.requires.sound

pub returns-clause-turns : goal.returns-clause-turns
returns-clause-turns c =
    turns_own (Stored (λ (m : List ℕ). m) all_stored c.args.memory.now c.answer_in.new.memory) c.args.memory.now
    c.answer_in.new.memory c.args.self.now (Event.Answer c.args.number) c.answer_in.result c.answer_in.new.self
    c.answer_in.ensures.turns
