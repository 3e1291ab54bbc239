use Rattle.device_model.specs.Events.{plain_event}
use Rattle.world.proofs.Promising.{steps_promised}
use Rattle.world.proofs.world.World.step.Goals as goal

pub returns-clause-promise : goal.returns-clause-promise
returns-clause-promise c =
    steps_promised c.the_promise_is_kept.ensures c.every_run_goes_on.ensures.run c.args.self.now (plain_event c.args.event)
    c.step_by.result c.step_by.new.self c.step_by.ensures
