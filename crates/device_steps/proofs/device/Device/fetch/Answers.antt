use Rattle.device_model.specs.Events.{Event}
use Rattle.std.proofs.Common.{ℕ, List, false}
use Rattle.guest_mem.specs.Stores.{all_stored}
use Rattle.device_steps.specs.Apart.{Stored}
use Rattle.device_steps.proofs.InMemory.{has_few, sound_own, turns_own_or}
use Rattle.device_steps.proofs.device.Device.fetch.Goals as goal

pub fetch_in-requires-clause-sound : goal.fetch_in-requires-clause-sound
fetch_in-requires-clause-sound c = sound_own c.args.memory.now c.args.self.now c.requires.sound

pub fetch_in-requires-clause-few : goal.fetch_in-requires-clause-few
fetch_in-requires-clause-few c = has_few false c.args.memory.now c.args.self.now c.requires.few

pub returns-clause-turns : goal.returns-clause-turns
returns-clause-turns c =
    turns_own_or (Stored (λ (m : List ℕ). m) all_stored c.args.memory.now c.fetch_in.new.memory) c.args.memory.now
    c.fetch_in.new.memory c.args.self.now (Event.Fetch c.args.number) c.fetch_in.result c.fetch_in.new.self
    c.fetch_in.ensures.turns
