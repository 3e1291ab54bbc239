use Rattle.std.proofs.Common.{arith}
use Rattle.std.specs.Prelude.{◌==◌}
use Rattle.world.specs.ServingAsked.{ServesWhole, AsksDrivers}
use Rattle.world.proofs.Rounded.{none_yet, one_more, over, refused, goes_on, none_came}
use Rattle.world.proofs.world.World.serve_and_ask.Goals as goal

pub rounds-init : goal.rounds-init
rounds-init c =
    record {
      so = none_yet (ServesWhole c.args.queues) (AsksDrivers c.args.queues) c.args.self.now c.args.most;
      few = omega (arith);
    }

pub rounds-preserved : goal.rounds-preserved
rounds-preserved c =
    record {
      so = one_more (ServesWhole c.args.queues) (AsksDrivers c.args.queues) c.args.self.now c.args.most c.rounds.steps
          c.rounds.asked c.rounds.self c.serve.new.self c.ask_each.new.self c.in-Ok.served c.rounds.invariant.so
          (c.in-Ok.ensures.serves, c.in-Ok.ensures.promise)
          (goes_on c.is_over.result c.in-Ok.served.more c.rounds.asked (c.in-Ok.served.steps == 0) c.is_over.ensures c.if-is_over.false) c.ask_each.ensures;
      few = omega (arith, c.rounds.invariant.few, c.in-Ok.ensures.serves.few);
    }

pub returns-then-is_over : goal.returns-then-is_over
returns-then-is_over c =
    over (ServesWhole c.args.queues) (AsksDrivers c.args.queues) c.args.self.now c.args.most c.rounds.steps c.rounds.asked
    c.rounds.self c.serve.new.self c.in-Ok.served c.rounds.invariant.so (c.in-Ok.ensures.serves, c.in-Ok.ensures.promise)
    (omega (arith, c.rounds.invariant.few, c.in-Ok.ensures.serves.few))
    (none_came c.is_over.result c.in-Ok.served.more c.rounds.asked c.in-Ok.served.steps c.is_over.ensures c.if-is_over.true)

pub returns-in-Err : goal.returns-in-Err
returns-in-Err c =
    refused (ServesWhole c.args.queues) (AsksDrivers c.args.queues) c.args.self.now c.args.most c.rounds.steps c.rounds.asked
    c.rounds.self c.serve.new.self _ c.rounds.invariant.so c.rounds.invariant.few
    (c.in-Err.ensures.serves, c.in-Err.ensures.promise)
