use Rattle.world.proofs.live_world.LiveWorld.is_steady.Goals as goal

pub returns-clause-reached : goal.returns-clause-reached
returns-clause-reached g c = rw (← c.self.view_is) (λ m long. (c.self.invariant m long).whole.reached)

pub returns-clause-few : goal.returns-clause-few
returns-clause-few g c =
    let some = c.size-bytes.ensures.some in
    let there = g.met.M.Memory.sized c.self.inside.memory some.0 some.1 in
    rw (← c.self.view_is) ((c.self.invariant some.0 there).whole.few.queues)
