use Rattle.std.proofs.Common.{ℕ, List}
use Rattle.device_model.specs.Events.{Event}
use Rattle.guest_mem.specs.Stores.{all_stored}
use Rattle.device_steps.specs.Apart.{Stored}
use Rattle.device_steps.proofs.InMemory.{sound_own, turns_own}
use Rattle.device_steps.proofs.device.Device.direct.Goals as goal

pub direct_in-requires-clause-sound : goal.direct_in-requires-clause-sound
direct_in-requires-clause-sound c = sound_own c.args.memory.now c.args.self.now c.requires.sound

pub returns-clause-turns : goal.returns-clause-turns
returns-clause-turns c =
    turns_own (Stored (λ (m : List ℕ). m) all_stored c.args.memory.now c.direct_in.new.memory) c.args.memory.now
    c.direct_in.new.memory c.args.self.now (Event.Direct c.args.number) c.direct_in.result c.direct_in.new.self
    c.direct_in.ensures.turns
