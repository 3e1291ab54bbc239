use Rattle.std.proofs.Common.{◌∙◌, ◌+◌, refl, sym, subst, arith, true≢false}
use Rattle.std.proofs.lemmas.Bool.Decides.{nat_tests}
use Rattle.device_steps.specs.Apart.{standing, Stored}
use Rattle.world.specs.Inner.Rounds.{SettledLive}
use Rattle.device_steps.specs.Settling.{asks}
use Rattle.device_steps.proofs.InMemory.{none_known}
use Rattle.world.proofs.Rounds.{rounds_none, settled_none, settled_look, goes_on_served, stores_served, looks_next, looks_none}
use Rattle.world.proofs.live_world.LiveWorld.serve.Goals as goal

pub loop-turn-init : goal.loop-turn-init
loop-turn-init g c =
    let x = c.args.self.now in
    let size = g.M.Memory.extent x.memory in
    let stored = Stored g.M.Memory.stored g.M.Memory.storing in
    record {
      rounds = rounds_none g.M.Memory.shared g.M.Memory.begins g.M.Memory.may_be stored (asks c.args.queues) x;
      settled = λ a long.
          settled_none (asks c.args.queues) (stored x.memory x.memory) g.M.Memory.shared size a x.device
          (none_known g.M.Memory.stored g.M.Memory.storing g.met.M.Memory.none x.memory x.memory refl) long;
      size = refl;
      before = λ m. tt;
      counted = omega (arith);
      few = omega (arith);
    }

pub loop-turn-preserved : goal.loop-turn-preserved
loop-turn-preserved g c =
    let shared = g.M.Memory.shared in
    let asked = asks c.args.queues in
    let stored = Stored g.M.Memory.stored g.M.Memory.storing in
    let inv = c.loop-turn.invariant in
    let t = rw c.in-Ok-Some.field-0-is at c.in-Ok-Some.ensures.turns in
    let next = rw c.in-Ok-Some.field-0-is at c.in-Ok-Some.ensures.settles in
    let x = c.args.self.now in
    let size = g.M.Memory.extent x.memory in
    record {
      rounds = t.serves x c.loop-turn.steps inv.rounds;
      settled = λ a long.
          let w = standing shared a x.device in
          let before = subst (λ n.
          SettledLive asked (stored x.memory c.loop-turn.self.memory) shared n w c.loop-turn.steps c.loop-turn.self.device)
          (sym inv.size) (inv.settled a long) in
          subst (λ n.
          SettledLive asked (stored x.memory c.turn_and_row.new.self.memory) shared n w
          (c.loop-turn.steps + c.in-Ok-Some.served.steps) c.turn_and_row.new.self.device) inv.size
          (next x.memory w c.loop-turn.steps before);
      size = c.in-Ok-Some.ensures.size ∙ inv.size;
      before = t.before;
      counted = omega (arith, inv.counted, t.some);
      few = omega (arith, inv.few, t.few);
    }

pub returns-in-Ok-None-clause-serves : goal.returns-in-Ok-None-clause-serves
returns-in-Ok-None-clause-serves g c =
    let t = rw c.in-Ok-None.field-0-is at c.in-Ok-None.ensures.turns in
    record {
      behind = c.loop-turn.self;
      serves = c.loop-turn.invariant.rounds;
      few = c.loop-turn.invariant.few;
      left = λ on. absurd (true≢false (sym on));
      none = λ off. t;
    }

pub returns-in-Ok-None-clause-promise : goal.returns-in-Ok-None-clause-promise
returns-in-Ok-None-clause-promise g c =
    let shared = g.M.Memory.shared in
    let asked = asks c.args.queues in
    let stored = Stored g.M.Memory.stored g.M.Memory.storing in
    let t = rw c.in-Ok-None.field-0-is at c.in-Ok-None.ensures.turns in
    let x = c.args.self.now in
    let y = c.turn_and_row.new.self in
    let size = g.M.Memory.extent x.memory in
    goes_on_served c.the_promise_is_kept.ensures c.every_run_goes_on.ensures.run c.a_live_run_is_a_run.ensures
    c.a_live_settling_is_short.ensures.runs c.a_live_settling_is_short.ensures.changes c.a_live_settling_is_short.ensures.short
    (stored x.memory y.memory) asked shared size x.device c.loop-turn.steps y.device c.is_steady.ensures.reached
    (λ a long.
    settled_look g.M.Memory.stored g.M.Memory.storing g.met.M.Memory.none asked shared size (standing shared a x.device)
    c.loop-turn.steps c.loop-turn.self.device y.device x.memory c.loop-turn.self.memory y.memory t.same t.stores
    (c.loop-turn.invariant.settled a long))

pub returns-in-Ok-None-clause-stores : goal.returns-in-Ok-None-clause-stores
returns-in-Ok-None-clause-stores g c =
    let shared = g.M.Memory.shared in
    let asked = asks c.args.queues in
    let stored = Stored g.M.Memory.stored g.M.Memory.storing in
    let t = rw c.in-Ok-None.field-0-is at c.in-Ok-None.ensures.turns in
    let x = c.args.self.now in
    let y = c.turn_and_row.new.self in
    let size = g.M.Memory.extent x.memory in
    stores_served c.the_promise_is_kept.ensures c.every_run_goes_on.ensures.run c.a_live_run_is_a_run.ensures
    c.a_live_settling_is_short.ensures.runs c.a_live_settling_is_short.ensures.changes c.a_live_settling_is_short.ensures.short
    (stored x.memory y.memory) asked shared size x.device c.loop-turn.steps y.device c.is_steady.ensures.reached
    (λ a long.
    settled_look g.M.Memory.stored g.M.Memory.storing g.met.M.Memory.none asked shared size (standing shared a x.device)
    c.loop-turn.steps c.loop-turn.self.device y.device x.memory c.loop-turn.self.memory y.memory t.same t.stores
    (c.loop-turn.invariant.settled a long))

pub returns-in-Err-clause-serves : goal.returns-in-Err-clause-serves
returns-in-Err-clause-serves g c =
    record {
      behind = c.loop-turn.self;
      count = c.loop-turn.steps;
      serves = c.loop-turn.invariant.rounds;
      few = grind (arith, nat_tests, c.loop-turn.invariant.few, c.if-steps-most.false);
      wants = c.in-Err.ensures.turns;
    }

pub returns-in-Err-clause-promise : goal.returns-in-Err-clause-promise
returns-in-Err-clause-promise g c =
    let shared = g.M.Memory.shared in
    let asked = asks c.args.queues in
    let stored = Stored g.M.Memory.stored g.M.Memory.storing in
    let t = c.in-Err.ensures.turns in
    let x = c.args.self.now in
    let y = c.turn_and_row.new.self in
    let size = g.M.Memory.extent x.memory in (
      c.loop-turn.steps,
      goes_on_served c.the_promise_is_kept.ensures c.every_run_goes_on.ensures.run c.a_live_run_is_a_run.ensures
          c.a_live_settling_is_short.ensures.runs c.a_live_settling_is_short.ensures.changes c.a_live_settling_is_short.ensures.short
          (stored x.memory y.memory) asked shared size x.device c.loop-turn.steps y.device c.is_steady.ensures.reached
          (λ a long.
          settled_look g.M.Memory.stored g.M.Memory.storing g.met.M.Memory.none asked shared size (standing shared a x.device)
          c.loop-turn.steps c.loop-turn.self.device y.device x.memory c.loop-turn.self.memory y.memory t.same t.stores
          (c.loop-turn.invariant.settled a long)),
    )

pub returns-in-Err-clause-stores : goal.returns-in-Err-clause-stores
returns-in-Err-clause-stores g c =
    let shared = g.M.Memory.shared in
    let asked = asks c.args.queues in
    let stored = Stored g.M.Memory.stored g.M.Memory.storing in
    let t = c.in-Err.ensures.turns in
    let x = c.args.self.now in
    let y = c.turn_and_row.new.self in
    let size = g.M.Memory.extent x.memory in (
      c.loop-turn.steps,
      stores_served c.the_promise_is_kept.ensures c.every_run_goes_on.ensures.run c.a_live_run_is_a_run.ensures
          c.a_live_settling_is_short.ensures.runs c.a_live_settling_is_short.ensures.changes c.a_live_settling_is_short.ensures.short
          (stored x.memory y.memory) asked shared size x.device c.loop-turn.steps y.device c.is_steady.ensures.reached
          (λ a long.
          settled_look g.M.Memory.stored g.M.Memory.storing g.met.M.Memory.none asked shared size (standing shared a x.device)
          c.loop-turn.steps c.loop-turn.self.device y.device x.memory c.loop-turn.self.memory y.memory t.same t.stores
          (c.loop-turn.invariant.settled a long)),
    )

pub returns-then-steps-most-clause-serves : goal.returns-then-steps-most-clause-serves
returns-then-steps-most-clause-serves g c =
    let looks = c.has_step-more.ensures.looks in
    record {
      behind = c.loop-turn.self;
      serves = c.loop-turn.invariant.rounds;
      few = c.loop-turn.invariant.few;
      left = λ on. (
        grind (arith, nat_tests, c.if-steps-most.true),
        looks_next g.M.Memory.shared g.M.Memory.begins g.M.Memory.may_be (Stored g.M.Memory.stored g.M.Memory.storing)
            (asks c.args.queues) c.has_step-more.result
            c.loop-turn.self c.has_step-more.new.self on looks,
      );
      none = λ off.
          looks_none g.M.Memory.shared g.M.Memory.begins g.M.Memory.may_be (Stored g.M.Memory.stored g.M.Memory.storing)
          (asks c.args.queues) c.has_step-more.result
          c.loop-turn.self c.has_step-more.new.self off looks;
    }

pub returns-then-steps-most-clause-promise : goal.returns-then-steps-most-clause-promise
returns-then-steps-most-clause-promise g c =
    let shared = g.M.Memory.shared in
    let asked = asks c.args.queues in
    let stored = Stored g.M.Memory.stored g.M.Memory.storing in
    let t = c.has_step-more.ensures.looks in
    let x = c.args.self.now in
    let y = c.has_step-more.new.self in
    let size = g.M.Memory.extent x.memory in
    goes_on_served c.the_promise_is_kept.ensures c.every_run_goes_on.ensures.run c.a_live_run_is_a_run.ensures
    c.a_live_settling_is_short.ensures.runs c.a_live_settling_is_short.ensures.changes c.a_live_settling_is_short.ensures.short
    (stored x.memory y.memory) asked shared size x.device c.loop-turn.steps y.device c.is_steady.ensures.reached
    (λ a long.
    settled_look g.M.Memory.stored g.M.Memory.storing g.met.M.Memory.none asked shared size (standing shared a x.device)
    c.loop-turn.steps c.loop-turn.self.device y.device x.memory c.loop-turn.self.memory y.memory t.same t.stores
    (c.loop-turn.invariant.settled a long))

pub returns-then-steps-most-clause-stores : goal.returns-then-steps-most-clause-stores
returns-then-steps-most-clause-stores g c =
    let shared = g.M.Memory.shared in
    let asked = asks c.args.queues in
    let stored = Stored g.M.Memory.stored g.M.Memory.storing in
    let t = c.has_step-more.ensures.looks in
    let x = c.args.self.now in
    let y = c.has_step-more.new.self in
    let size = g.M.Memory.extent x.memory in
    stores_served c.the_promise_is_kept.ensures c.every_run_goes_on.ensures.run c.a_live_run_is_a_run.ensures
    c.a_live_settling_is_short.ensures.runs c.a_live_settling_is_short.ensures.changes c.a_live_settling_is_short.ensures.short
    (stored x.memory y.memory) asked shared size x.device c.loop-turn.steps y.device c.is_steady.ensures.reached
    (λ a long.
    settled_look g.M.Memory.stored g.M.Memory.storing g.met.M.Memory.none asked shared size (standing shared a x.device)
    c.loop-turn.steps c.loop-turn.self.device y.device x.memory c.loop-turn.self.memory y.memory t.same t.stores
    (c.loop-turn.invariant.settled a long))

pub returns-clause-serves : goal.returns-clause-serves
returns-clause-serves g c =
    let looks = c.has_step-more-2.ensures.looks in
    record {
      behind = c.loop-turn.self;
      serves = c.loop-turn.invariant.rounds;
      few = c.loop-turn.invariant.few;
      left = λ on. (
        omega (arith, c.loop-turn.invariant.few, c.loop-turn.invariant.counted, c.loop-turn-test.false),
        looks_next g.M.Memory.shared g.M.Memory.begins g.M.Memory.may_be (Stored g.M.Memory.stored g.M.Memory.storing)
            (asks c.args.queues) c.has_step-more-2.result
            c.loop-turn.self c.has_step-more-2.new.self on looks,
      );
      none = λ off.
          looks_none g.M.Memory.shared g.M.Memory.begins g.M.Memory.may_be (Stored g.M.Memory.stored g.M.Memory.storing)
          (asks c.args.queues) c.has_step-more-2.result
          c.loop-turn.self c.has_step-more-2.new.self off looks;
    }

pub returns-clause-promise : goal.returns-clause-promise
returns-clause-promise g c =
    let shared = g.M.Memory.shared in
    let asked = asks c.args.queues in
    let stored = Stored g.M.Memory.stored g.M.Memory.storing in
    let t = c.has_step-more-2.ensures.looks in
    let x = c.args.self.now in
    let y = c.has_step-more-2.new.self in
    let size = g.M.Memory.extent x.memory in
    goes_on_served c.the_promise_is_kept.ensures c.every_run_goes_on.ensures.run c.a_live_run_is_a_run.ensures
    c.a_live_settling_is_short.ensures.runs c.a_live_settling_is_short.ensures.changes c.a_live_settling_is_short.ensures.short
    (stored x.memory y.memory) asked shared size x.device c.loop-turn.steps y.device c.is_steady.ensures.reached
    (λ a long.
    settled_look g.M.Memory.stored g.M.Memory.storing g.met.M.Memory.none asked shared size (standing shared a x.device)
    c.loop-turn.steps c.loop-turn.self.device y.device x.memory c.loop-turn.self.memory y.memory t.same t.stores
    (c.loop-turn.invariant.settled a long))

pub returns-clause-stores : goal.returns-clause-stores
returns-clause-stores g c =
    let shared = g.M.Memory.shared in
    let asked = asks c.args.queues in
    let stored = Stored g.M.Memory.stored g.M.Memory.storing in
    let t = c.has_step-more-2.ensures.looks in
    let x = c.args.self.now in
    let y = c.has_step-more-2.new.self in
    let size = g.M.Memory.extent x.memory in
    stores_served c.the_promise_is_kept.ensures c.every_run_goes_on.ensures.run c.a_live_run_is_a_run.ensures
    c.a_live_settling_is_short.ensures.runs c.a_live_settling_is_short.ensures.changes c.a_live_settling_is_short.ensures.short
    (stored x.memory y.memory) asked shared size x.device c.loop-turn.steps y.device c.is_steady.ensures.reached
    (λ a long.
    settled_look g.M.Memory.stored g.M.Memory.storing g.met.M.Memory.none asked shared size (standing shared a x.device)
    c.loop-turn.steps c.loop-turn.self.device y.device x.memory c.loop-turn.self.memory y.memory t.same t.stores
    (c.loop-turn.invariant.settled a long))
