use Rattle.std.specs.Prelude.{replicate}
use Rattle.std.proofs.lemmas.List.{length-replicate}
use Rattle.device_steps.specs.Apart.{standing}
use Rattle.world.proofs.Lively.{few_live}
use Rattle.world.proofs.live_world.LiveWorld.has_parts.Goals as goal

pub returns-clause-few : goal.returns-clause-few
returns-clause-few g c =
    let size = g.M.Memory.extent c.self.inside.memory in
    rw (← c.self.view_is)
    (few_live g.M.Memory.shared size c.self.inside.device (replicate size 0) (length-replicate size 0) c.self.invariant)

pub returns-clause-numbered : goal.returns-clause-numbered
returns-clause-numbered g c =
    let size = g.M.Memory.extent c.self.inside.memory in
    let zeros = replicate size 0 in
    rw (← c.self.view_is)
    (c.all_are_sound.ensures (standing g.M.Memory.shared zeros c.self.inside.device)
    (c.self.invariant zeros (length-replicate size 0)).whole.reached).numbered
