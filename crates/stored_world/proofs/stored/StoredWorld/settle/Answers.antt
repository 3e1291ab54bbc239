use Rattle.stored_world.proofs.Hosting.{hosted_on}
use Rattle.stored_world.proofs.Asked.{settled_keeps}
use Rattle.stored_world.proofs.stored.StoredWorld.settle.Goals as goal

pub invariant_of-self : goal.invariant_of-self
invariant_of-self c =
    let old = c.args.self.now in
    let new = c.settle.new.self in
    record { hosted = hosted_on old.world new old.disks.items (settled_keeps old.world new c.settle.result c.settle.ensures.serves) old.hosted }
