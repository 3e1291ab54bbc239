use Rattle.std.proofs.Common.{refl}
use Rattle.device_model.specs.Events.{Event}
use Rattle.stored_world.proofs.Hosting.{hosted_on}
use Rattle.stored_world.proofs.Keeping.{turn_keeps}
use Rattle.stored_world.proofs.stored.StoredWorld.poke.Goals as goal

pub invariant_of-self : goal.invariant_of-self
invariant_of-self c =
    let old = c.args.self.now in
    let new = c.poke.new.self in
    let event : Event = Event.Poke (record { addr = c.args.addr; bytes = c.args.bytes.now }) in
    record { hosted = hosted_on old.world new old.disks.items (turn_keeps old.world new event c.poke.result refl c.poke.ensures.turns) old.hosted }
