use Rattle.world.proofs.live_world.LiveWorld.some_trace_led_here.Goals as goal

pub returns : goal.returns
returns g c = rw (← c.self.view_is) (λ m long. (c.self.invariant m long).whole.reached)
