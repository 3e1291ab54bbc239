use Rattle.std.proofs.Common.{false, sym, subst, arith, true≢false}
use Rattle.std.proofs.lemmas.Bool.Decides.{nat_tests}
use Rattle.device_model.specs.Order.{IsQuietOf}
use Rattle.device_steps.specs.Settling.{asks, ServesBy}
use Rattle.world.proofs.Promising.{served}
use Rattle.device_steps.proofs.Sequences.{serves_more}
use Rattle.world.proofs.Portions.{portion, refused}
use Rattle.world.proofs.world.World.serve.Goals as goal

pub loop-turn-preserved : goal.loop-turn-preserved
loop-turn-preserved c =
    let t = rw c.in-Ok-Some.field-0-is at c.in-Ok-Some.ensures in
    record {
      serves = serves_more (asks c.args.queues) c.args.self.now c.loop-turn.self c.turn.new.self c.loop-turn.steps
          c.in-Ok-Some.served.steps c.loop-turn.invariant.serves t.serves;
      before = t.before;
      counted = omega (arith, c.loop-turn.invariant.counted, t.some);
      few = omega (arith, c.loop-turn.invariant.few, t.few);
    }

-- what was served until nothing was left
served_all : (c : goal.In-Ok-None) → ServesBy (asks c.args.queues) c.args.self.now c.loop-turn.steps c.turn.new.self
served_all c =
    let t = rw c.in-Ok-None.field-0-is at c.in-Ok-None.ensures in
    subst (λ z. ServesBy (asks c.args.queues) c.args.self.now c.loop-turn.steps z) (sym t.0) c.loop-turn.invariant.serves

pub returns-in-Ok-None-clause-serves : goal.returns-in-Ok-None-clause-serves
returns-in-Ok-None-clause-serves c =
    let t = rw c.in-Ok-None.field-0-is at c.in-Ok-None.ensures in
    portion (asks c.args.queues) c.args.self.now c.args.most c.loop-turn.steps false c.turn.new.self
    c.some_trace_led_here.ensures (served_all c) c.loop-turn.invariant.few (λ on. absurd (true≢false (sym on)))
    (subst (λ z. IsQuietOf (asks c.args.queues) z) (sym t.0) t.1)

pub returns-in-Ok-None-clause-promise : goal.returns-in-Ok-None-clause-promise
returns-in-Ok-None-clause-promise c =
    served c.the_promise_is_kept.ensures c.every_run_goes_on.ensures.run (asks c.args.queues) c.args.self.now
    c.loop-turn.steps c.turn.new.self (served_all c)

pub returns-in-Err-clause-serves : goal.returns-in-Err-clause-serves
returns-in-Err-clause-serves c =
    refused (asks c.args.queues) c.args.self.now c.args.most c.loop-turn.steps c.loop-turn.self c.turn.new.self
    c.some_trace_led_here.ensures c.loop-turn.invariant.serves
    (grind (arith, nat_tests, c.loop-turn.invariant.few, c.if-steps-most.false)) c.in-Err.ensures

pub returns-in-Err-clause-promise : goal.returns-in-Err-clause-promise
returns-in-Err-clause-promise c =
    let serves = subst (λ z. ServesBy (asks c.args.queues) c.args.self.now c.loop-turn.steps z) (sym c.in-Err.ensures.0)
    c.loop-turn.invariant.serves in (
      c.loop-turn.steps,
      served c.the_promise_is_kept.ensures c.every_run_goes_on.ensures.run (asks c.args.queues) c.args.self.now
          c.loop-turn.steps c.turn.new.self serves,
    )

pub returns-then-steps-most-clause-serves : goal.returns-then-steps-most-clause-serves
returns-then-steps-most-clause-serves c =
    portion (asks c.args.queues) c.args.self.now c.args.most c.loop-turn.steps c.has_step-more.result
    c.loop-turn.self c.some_trace_led_here.ensures c.loop-turn.invariant.serves c.loop-turn.invariant.few
    (λ on. grind (arith, nat_tests, c.if-steps-most.true)) c.has_step-more.ensures

pub returns-then-steps-most-clause-promise : goal.returns-then-steps-most-clause-promise
returns-then-steps-most-clause-promise c =
    served c.the_promise_is_kept.ensures c.every_run_goes_on.ensures.run (asks c.args.queues) c.args.self.now
    c.loop-turn.steps c.loop-turn.self c.loop-turn.invariant.serves

pub returns-clause-serves : goal.returns-clause-serves
returns-clause-serves c =
    portion (asks c.args.queues) c.args.self.now c.args.most c.loop-turn.steps c.has_step-more-2.result
    c.loop-turn.self c.some_trace_led_here.ensures c.loop-turn.invariant.serves c.loop-turn.invariant.few
    (λ on. omega (arith, c.loop-turn.invariant.few, c.loop-turn.invariant.counted, c.loop-turn-test.false))
    c.has_step-more-2.ensures

pub returns-clause-promise : goal.returns-clause-promise
returns-clause-promise c =
    served c.the_promise_is_kept.ensures c.every_run_goes_on.ensures.run (asks c.args.queues) c.args.self.now
    c.loop-turn.steps c.loop-turn.self c.loop-turn.invariant.serves
