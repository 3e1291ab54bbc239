use Rattle.std.proofs.Common.{refl}
use Rattle.device_model.specs.Events.{plain_event}
use Rattle.device_steps.specs.Apart.{Stored}
use Rattle.device_steps.proofs.InMemory.{none_known}
use Rattle.world.proofs.Lively.{step_promised, step_stores}
use Rattle.world.proofs.live_world.LiveWorld.step.Goals as goal

pub returns-clause-promise : goal.returns-clause-promise
returns-clause-promise g c =
    let old = c.args.self.now in
    step_promised c.the_promise_is_kept.ensures c.every_run_goes_on.ensures.run c.a_live_run_is_a_run.ensures
    (Stored g.M.Memory.stored g.M.Memory.storing) g.M.Memory.shared (g.M.Memory.extent old.memory) old (plain_event c.args.event)
    c.step_by.result c.step_by.new.self
    (none_known g.M.Memory.stored g.M.Memory.storing g.met.M.Memory.none old.memory old.memory refl) c.step_by.ensures.ran

pub returns-clause-stores : goal.returns-clause-stores
returns-clause-stores g c =
    let old = c.args.self.now in
    step_stores c.the_promise_is_kept.ensures c.every_run_goes_on.ensures.run c.a_live_run_is_a_run.ensures
    (Stored g.M.Memory.stored g.M.Memory.storing) g.M.Memory.shared (g.M.Memory.extent old.memory) old (plain_event c.args.event)
    c.step_by.result c.step_by.new.self
    (none_known g.M.Memory.stored g.M.Memory.storing g.met.M.Memory.none old.memory old.memory refl) c.step_by.ensures.ran
