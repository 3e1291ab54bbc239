use Rattle.device_model.specs.Events.{plain_event}
use Rattle.stored_world.proofs.Hosting.{hosted_on}
use Rattle.stored_world.proofs.Asked.{plain_served, stepped_keeps}
use Rattle.stored_world.proofs.stored.StoredWorld.step.Goals as goal

pub invariant_of-self : goal.invariant_of-self
invariant_of-self c =
    let old = c.args.self.now in
    let new = c.step.new.self in
    let served = plain_served c.args.event c.in_default.not-Resize in
    record {
      hosted =
          hosted_on old.world new old.disks.items
          (stepped_keeps old.world new (plain_event c.args.event) c.step.result served c.step.ensures.steps) old.hosted;
    }
