use Rattle.std.proofs.Common.{refl, subst}
use Rattle.world.specs.declared.served.Served.{Served as Portion}
use Rattle.c_calls.specs.Live.{ServesApart}
use Rattle.c_calls.specs.declared.answer.Answer.TheVariants.{Done, NoMemory}
use Rattle.c_calls.proofs.live_served.LiveServed.serve.Goals as goal

pub returns-in-Ok : goal.returns-in-Ok
returns-in-Ok c = (
  subst (λ n. ServesApart n c.args.most c.args.self.now.world c.in-Ok.served Done c.in-Ok.served c.serve.new.self) c.among.ensures
      (c.in-Ok.ensures.serves, c.in-Ok.ensures.promise, c.in-Ok.ensures.stores),
  (refl, refl),
)

pub returns-in-Err : goal.returns-in-Err
returns-in-Err c =
    let untold : Portion = record { steps = c.args.steps.now; more = c.args.more.now } in (
      subst (λ n. ServesApart n c.args.most c.args.self.now.world untold NoMemory untold c.serve.new.self) c.among.ensures
          (c.in-Err.field-0, c.in-Err.ensures.serves, c.in-Err.ensures.promise, c.in-Err.ensures.stores, refl),
      (refl, refl),
    )
