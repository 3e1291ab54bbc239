use Rattle.device_steps.specs.Settling.{asks}
use Rattle.stored_world.proofs.Hosting.{hosted_on}
use Rattle.stored_world.proofs.Asked.{served_keeps}
use Rattle.stored_world.proofs.stored.StoredWorld.serve.Goals as goal

pub invariant_of-self : goal.invariant_of-self
invariant_of-self c =
    let old = c.args.self.now in
    let new = c.serve.new.self in
    record {
      hosted =
          hosted_on old.world new old.disks.items
          (served_keeps (asks c.args.queues) c.args.most old.world new c.serve.result c.serve.ensures.serves) old.hosted;
    }
