use Rattle.device_steps.specs.Asking.{asking_at}
use Rattle.stored_world.proofs.Hosting.{hosted_on}
use Rattle.stored_world.proofs.Asked.{asked_keeps}
use Rattle.stored_world.proofs.stored.StoredWorld.ask.Goals as goal

pub invariant_of-self : goal.invariant_of-self
invariant_of-self c =
    let old = c.args.self.now in
    let new = c.ask.new.self in
    record {
      hosted =
          hosted_on old.world new old.disks.items
          (asked_keeps old.world new (asking_at old.world.queues c.args.number c.args.notify) c.ask.result c.ask.ensures.asks) old.hosted;
    }
