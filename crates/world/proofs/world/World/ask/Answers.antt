use Rattle.std.proofs.Common.{◌≡◌, Ok, Some, false, length}
use Rattle.guest_mem.specs.Memory.{LiesIn}
use Rattle.ring_core.specs.Writes.{Write}
use Rattle.device_model.specs.Events.{Event}
use Rattle.device_steps.specs.Apart.{standing}
use Rattle.device_steps.specs.Asking.{asking_at}
use Rattle.world.proofs.Asked.{found, lies, made, asked, asked_promised}
use Rattle.world.proofs.Promising.{steps_promised}
use Rattle.world.proofs.Reaching.{steady_by, steps_by}
use Rattle.world.proofs.world.World.ask.Goals as goal

pub invariant_of-self : goal.invariant_of-self
invariant_of-self c =
    steady_by (standing false c.self.inside.memory c.self.inside.device)
    (Event.Poke (record { addr = c.addr.result; bytes = c.bytes.result.now })) c.poke.result
    (standing false c.poke.new.memory c.self.inside.device) c.poke.ensures.size c.self.invariant
    (c.poke.ensures.turns false c.self.inside.device)

pub returns-in-Some-clause-asks : goal.returns-in-Some-clause-asks
returns-in-Some-clause-asks c =
    let x : Write = record { addr = c.addr.result; bytes = c.bytes.result.now } in
    let a = c.in-Some.asking in
    let w = standing false c.self.inside.memory c.self.inside.device in
    let w' = standing false c.poke.new.memory c.self.inside.device in
    let o = asking_at w.queues c.args.number c.args.notify in
    let is : Some x ≡ o =
    found x.addr x.bytes a c.asking.result o c.addr.ensures c.bytes.ensures c.in-Some.is c.asking.ensures.asks in
    let inside : LiesIn (length w.memory) x.addr (length x.bytes) =
    lies (length w.memory) x.addr x.bytes a c.asking.result c.addr.ensures c.bytes.ensures c.in-Some.is
    (c.asking.ensures.inside (length w.memory) c.self.invariant.fits) in
    let turns = c.poke.ensures.turns false c.self.inside.device in
    rw (← c.self.view_is) (asked w o x c.poke.result w' is (made w x c.poke.result w' inside turns) turns)

pub returns-in-Some-clause-promise : goal.returns-in-Some-clause-promise
returns-in-Some-clause-promise c =
    let x : Write = record { addr = c.addr.result; bytes = c.bytes.result.now } in
    let a = c.in-Some.asking in
    let w = standing false c.self.inside.memory c.self.inside.device in
    let w' = standing false c.poke.new.memory c.self.inside.device in
    let o = asking_at w.queues c.args.number c.args.notify in
    let is : Some x ≡ o =
    found x.addr x.bytes a c.asking.result o c.addr.ensures c.bytes.ensures c.in-Some.is c.asking.ensures.asks in
    let inside : LiesIn (length w.memory) x.addr (length x.bytes) =
    lies (length w.memory) x.addr x.bytes a c.asking.result c.addr.ensures c.bytes.ensures c.in-Some.is
    (c.asking.ensures.inside (length w.memory) c.self.invariant.fits) in
    let turns = c.poke.ensures.turns false c.self.inside.device in
    rw (← c.self.view_is)
    (asked_promised w o x c.poke.result w' is (made w x c.poke.result w' inside turns)
    (steps_promised c.the_promise_is_kept.ensures c.every_run_goes_on.ensures.run w (Event.Poke x) (Ok c.poke.result) w'
    (steps_by w (Event.Poke x) c.poke.result w' turns)))
