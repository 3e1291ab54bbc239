use Rattle.stored_world.proofs.Hosting.{hosted_on}
use Rattle.stored_world.proofs.Asked.{serving_asked_keeps}
use Rattle.stored_world.proofs.stored.StoredWorld.serve_and_ask.Goals as goal

pub invariant_of-self : goal.invariant_of-self
invariant_of-self c =
    let old = c.args.self.now in
    let new = c.serve_and_ask.new.self in
    record {
      hosted =
          hosted_on old.world new old.disks.items
          (serving_asked_keeps c.args.queues c.args.most old.world new c.serve_and_ask.result c.serve_and_ask.ensures) old.hosted;
    }
