use Rattle.std.proofs.Common.{refl, arith, ◌∙◌}
use Rattle.std.specs.Prelude.{◌==◌}
use Rattle.device_steps.specs.Apart.{Stored}
use Rattle.world.specs.ServingAsked.{ServesWholeLive, AsksDriversLive}
use Rattle.world.proofs.Rounded.{none_yet, one_more, over, refused, goes_on, none_came}
use Rattle.world.proofs.live_world.LiveWorld.serve_and_ask.Goals as goal

pub rounds-init : goal.rounds-init
rounds-init g c =
    record {
      so = none_yet (ServesWholeLive g.M.Memory.shared g.M.Memory.begins g.M.Memory.may_be (Stored g.M.Memory.stored g.M.Memory.storing) g.M.Memory.extent c.args.queues) (AsksDriversLive g.M.Memory.shared g.M.Memory.begins g.M.Memory.may_be
          (Stored g.M.Memory.stored g.M.Memory.storing) g.M.Memory.extent c.args.queues) c.args.self.now c.args.most;
      size = refl;
      few = omega (arith);
    }

pub rounds-preserved : goal.rounds-preserved
rounds-preserved g c =
    record {
      so = one_more (ServesWholeLive g.M.Memory.shared g.M.Memory.begins g.M.Memory.may_be (Stored g.M.Memory.stored g.M.Memory.storing) g.M.Memory.extent c.args.queues) (AsksDriversLive g.M.Memory.shared g.M.Memory.begins g.M.Memory.may_be
          (Stored g.M.Memory.stored g.M.Memory.storing) g.M.Memory.extent c.args.queues) c.args.self.now c.args.most c.rounds.steps
          c.rounds.asked c.rounds.self c.serve.new.self c.ask_each.new.self c.in-Ok.served c.rounds.invariant.so
          (c.in-Ok.ensures.serves, c.in-Ok.ensures.promise, c.in-Ok.ensures.stores)
          (goes_on c.is_over.result c.in-Ok.served.more c.rounds.asked (c.in-Ok.served.steps == 0) c.is_over.ensures c.if-is_over.false) c.ask_each.ensures.asks;
      size = c.ask_each.ensures.size ∙ (c.in-Ok.ensures.size ∙ c.rounds.invariant.size);
      few = omega (arith, c.rounds.invariant.few, c.in-Ok.ensures.serves.few);
    }

pub returns-then-is_over-clause-serves : goal.returns-then-is_over-clause-serves
returns-then-is_over-clause-serves g c =
    over (ServesWholeLive g.M.Memory.shared g.M.Memory.begins g.M.Memory.may_be (Stored g.M.Memory.stored g.M.Memory.storing) g.M.Memory.extent c.args.queues) (AsksDriversLive g.M.Memory.shared g.M.Memory.begins g.M.Memory.may_be
    (Stored g.M.Memory.stored g.M.Memory.storing) g.M.Memory.extent c.args.queues) c.args.self.now c.args.most c.rounds.steps c.rounds.asked
    c.rounds.self c.serve.new.self c.in-Ok.served c.rounds.invariant.so (c.in-Ok.ensures.serves, c.in-Ok.ensures.promise, c.in-Ok.ensures.stores)
    (omega (arith, c.rounds.invariant.few, c.in-Ok.ensures.serves.few))
    (none_came c.is_over.result c.in-Ok.served.more c.rounds.asked c.in-Ok.served.steps c.is_over.ensures c.if-is_over.true)

pub returns-in-Err-clause-serves : goal.returns-in-Err-clause-serves
returns-in-Err-clause-serves g c =
    refused (ServesWholeLive g.M.Memory.shared g.M.Memory.begins g.M.Memory.may_be (Stored g.M.Memory.stored g.M.Memory.storing) g.M.Memory.extent c.args.queues) (AsksDriversLive g.M.Memory.shared g.M.Memory.begins g.M.Memory.may_be
    (Stored g.M.Memory.stored g.M.Memory.storing) g.M.Memory.extent c.args.queues) c.args.self.now c.args.most c.rounds.steps c.rounds.asked
    c.rounds.self c.serve.new.self _ c.rounds.invariant.so c.rounds.invariant.few
    (c.in-Err.ensures.serves, c.in-Err.ensures.promise, c.in-Err.ensures.stores)
