use Rattle.std.proofs.Common.{Ok, false}
use Rattle.device_model.specs.Events.{Event}
use Rattle.device_steps.specs.Apart.{standing}
use Rattle.world.proofs.Promising.{steps_promised}
use Rattle.world.proofs.Reaching.{steady_by, steps_by}
use Rattle.world.proofs.world.World.poke.Goals as goal

pub invariant_of-self : goal.invariant_of-self
invariant_of-self c =
    steady_by (standing false c.self.inside.memory c.self.inside.device)
    (Event.Poke (record { addr = c.args.addr; bytes = c.args.bytes.now })) c.poke.result
    (standing false c.poke.new.memory c.self.inside.device) c.poke.ensures.size c.self.invariant
    (c.poke.ensures.turns false c.self.inside.device)

pub returns-clause-turns : goal.returns-clause-turns
returns-clause-turns c = rw (← c.self.view_is) (c.poke.ensures.turns false c.self.inside.device)

pub returns-clause-promise : goal.returns-clause-promise
returns-clause-promise c =
    let e = Event.Poke (record { addr = c.args.addr; bytes = c.args.bytes.now }) in
    let w = standing false c.self.inside.memory c.self.inside.device in
    let w' = standing false c.poke.new.memory c.self.inside.device in
    rw (← c.self.view_is)
    (steps_promised c.the_promise_is_kept.ensures c.every_run_goes_on.ensures.run w e (Ok c.poke.result) w'
    (steps_by w e c.poke.result w' (c.poke.ensures.turns false c.self.inside.device)))
