use Rattle.device_model.specs.Events.{Event}
use Rattle.std.proofs.Common.{ℕ, List, false}
use Rattle.guest_mem.specs.Stores.{all_stored}
use Rattle.device_steps.specs.Apart.{Stored}
use Rattle.device_steps.proofs.InMemory.{has_few, sound_own, turns_own}
use Rattle.device_steps.proofs.device.Device.raise.Goals as goal

pub raise_in-requires-clause-sound : goal.raise_in-requires-clause-sound
raise_in-requires-clause-sound c = sound_own c.args.memory.now c.args.self.now c.requires.sound

pub raise_in-requires-clause-few : goal.raise_in-requires-clause-few
raise_in-requires-clause-few c = has_few false c.args.memory.now c.args.self.now c.requires.few

pub returns-clause-turns : goal.returns-clause-turns
returns-clause-turns c =
    turns_own (Stored (λ (m : List ℕ). m) all_stored c.args.memory.now c.raise_in.new.memory) c.args.memory.now
    c.raise_in.new.memory c.args.self.now Event.Raise c.raise_in.result c.raise_in.new.self
    c.raise_in.ensures.turns
