use Rattle.std.proofs.Common.{false, subst}
use Rattle.device_steps.specs.Apart.{standing}
use Rattle.device_steps.specs.Inner.Sound.{IsSound}
use Rattle.world.proofs.world.World.is_sound.Goals as goal

pub returns-clause-sound : goal.returns-clause-sound
returns-clause-sound c = subst IsSound c.self.view_is (c.all_are_sound.ensures (standing false c.self.inside.memory c.self.inside.device) c.self.invariant.whole.reached)
