use Rattle.std.specs.Prelude.{replicate}
use Rattle.std.proofs.lemmas.List.{length-replicate}
use Rattle.device_steps.specs.Apart.{standing}
use Rattle.device_steps.proofs.Reached.{none_was_backed}
use Rattle.world.proofs.live_world.LiveWorld.none_waits.Goals as goal

pub returns-clause-aside : goal.returns-clause-aside
returns-clause-aside g c =
    let size = g.M.Memory.extent c.self.inside.memory in
    let zeros = replicate size 0 in
    let w = standing g.M.Memory.shared zeros c.self.inside.device in
    let r = (c.self.invariant zeros (length-replicate size 0)).whole.reached in
    rw (← c.self.view_is)
    (λ none. (c.a_device_in_memory_defers_nothing.ensures.none r.old r.trace w r.reached (none_was_backed w r none)).0)

pub returns-clause-woken : goal.returns-clause-woken
returns-clause-woken g c =
    let size = g.M.Memory.extent c.self.inside.memory in
    let zeros = replicate size 0 in
    let w = standing g.M.Memory.shared zeros c.self.inside.device in
    let r = (c.self.invariant zeros (length-replicate size 0)).whole.reached in
    rw (← c.self.view_is)
    (λ none. (c.a_device_in_memory_defers_nothing.ensures.none r.old r.trace w r.reached (none_was_backed w r none)).1)
