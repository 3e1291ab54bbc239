use Rattle.std.proofs.Common.{refl, subst}
use Rattle.world.specs.declared.served.Served.{Served as Portion}
use Rattle.c_calls.specs.LiveAsked.{ServesAskedApart}
use Rattle.c_calls.specs.declared.answer.Answer.TheVariants.{Done, NoMemory}
use Rattle.c_calls.proofs.live_served.LiveServed.serve_and_ask.Goals as goal

pub returns-in-Ok : goal.returns-in-Ok
returns-in-Ok c = (
  subst (λ n. ServesAskedApart n c.args.most c.args.self.now.world c.in-Ok.portion Done c.in-Ok.portion c.serve_and_ask.new.self)
      c.among.ensures c.in-Ok.ensures.serves,
  (refl, refl),
)

pub returns-in-Err : goal.returns-in-Err
returns-in-Err c =
    let untold : Portion = record { steps = c.args.steps.now; more = c.args.more.now } in (
      subst (λ n. ServesAskedApart n c.args.most c.args.self.now.world untold NoMemory untold c.serve_and_ask.new.self)
          c.among.ensures (c.in-Err.field-0, c.in-Err.ensures.serves, refl),
      (refl, refl),
    )
