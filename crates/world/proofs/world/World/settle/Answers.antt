use Rattle.world.proofs.Portions.{whole_or_part, counted_out, refused_part, goes_alike}
use Rattle.world.proofs.world.World.settle.Goals as goal

pub returns-then-served-clause-serves : goal.returns-then-served-clause-serves
returns-then-served-clause-serves c =
    counted_out c.args.self.now c.in-Ok.served _ c.serve.new.self c.is_sound.ensures.few.queues c.in-Ok.ensures.serves
    c.if-served.true

pub returns-then-served-clause-promise : goal.returns-then-served-clause-promise
returns-then-served-clause-promise c = (
  c.in-Ok.served.steps,
  goes_alike c.args.self.now c.in-Ok.served.steps c.serve.new.self c.is_sound.ensures.few.queues c.in-Ok.ensures.promise,
)

pub returns-else-served-clause-serves : goal.returns-else-served-clause-serves
returns-else-served-clause-serves c =
    whole_or_part c.args.self.now c.in-Ok.served c.serve.new.self c.is_sound.ensures.few.queues c.in-Ok.ensures.serves
    c.if-served.false

pub returns-else-served-clause-promise : goal.returns-else-served-clause-promise
returns-else-served-clause-promise c =
    goes_alike c.args.self.now c.in-Ok.served.steps c.serve.new.self c.is_sound.ensures.few.queues c.in-Ok.ensures.promise

pub returns-in-Err-clause-serves : goal.returns-in-Err-clause-serves
returns-in-Err-clause-serves c =
    refused_part c.args.self.now c.in-Err.field-0 _ c.serve.new.self c.is_sound.ensures.few.queues c.in-Err.ensures.serves

pub returns-in-Err-clause-promise : goal.returns-in-Err-clause-promise
returns-in-Err-clause-promise c =
    let g = c.in-Err.ensures.promise in
    (g.0, goes_alike c.args.self.now g.0 c.serve.new.self c.is_sound.ensures.few.queues g.1)
