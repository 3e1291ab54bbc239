use Rattle.std.proofs.Common.{◌≡◌, ◌+◌, ◌∙◌, Ok, take, refl, sym, subst, arith}
use Rattle.std.proofs.lemmas.List.{take_all}
use Rattle.world.specs.Steps.{events_of}
use Rattle.world.specs.LiveWorld.{StepsEach, StepsLive}
use Rattle.world.specs.Inner.LiveWorld.{StepRan, RanLive}
use Rattle.device_model.specs.Events.{plain_event}
use Rattle.device_steps.specs.Apart.{Stored}
use Rattle.device_steps.proofs.InMemory.{none_known}
use Rattle.device_steps.proofs.Sequences.{read_there}
use Rattle.world.proofs.Runs.{bit, take_next, counts_one, counts_none}
use Rattle.world.proofs.Lively.{each_next, each_none, ran_step, ran_none, ran_still, goes_on_live, stores_along, all_refused, run_refused, stores_refused}
use Rattle.world.proofs.live_world.LiveWorld.run.Goals.{then-branch, else-branch}
use Rattle.world.proofs.live_world.LiveWorld.run.Goals as goal

pub loop-index-init : goal.loop-index-init
loop-index-init g c =
    record {
      runs = each_none (StepsLive g.M.Memory.shared g.M.Memory.begins g.M.Memory.may_be
          (Stored g.M.Memory.stored g.M.Memory.storing)) c.args.self.now;
      ran = ran_none
          (Stored g.M.Memory.stored g.M.Memory.storing c.args.self.now.memory c.args.self.now.memory) g.M.Memory.shared
          (g.M.Memory.extent c.args.self.now.memory) c.args.self.now.device
          (none_known g.M.Memory.stored g.M.Memory.storing g.met.M.Memory.none c.args.self.now.memory c.args.self.now.memory refl);
      size = refl;
      all = refl;
      few = omega (arith);
    }

pub loop-index-preserved : goal.loop-index-preserved
loop-index-preserved g c =
    let e = c.index-events-index.result in
    let b = c.in_ok-step_by.field-0 in
    let n = c.loop-index.count in
    let xs = take c.loop-index.index c.args.events.now in
    let ys = take (c.loop-index.index + 1) c.args.events.now in
    let shared = g.M.Memory.shared in
    let stored = Stored g.M.Memory.stored g.M.Memory.storing in
    let size = g.M.Memory.extent c.args.self.now.memory in
    let old = c.args.self.now in
    let mid = c.loop-index.self in
    let new = c.step_by.new.self in
    let there = read_there c.args.events.now c.loop-index.index e
    (omega (arith, c.loop-index-test.true, c.loop-index.invariant.all)) c.index-events-index.is in
    let next = sym (take_next c.loop-index.index c.args.events.now e there) in
    let long : g.M.Memory.extent new.memory ≡ size = c.in_ok-step_by.ensures.size ∙ c.loop-index.invariant.size in
    let did : StepsEach (StepsLive shared g.M.Memory.begins g.M.Memory.may_be stored) old (events_of ys) (n + bit b) new =
    subst (λ zs. StepsEach (StepsLive shared g.M.Memory.begins g.M.Memory.may_be stored) old (events_of zs) (n + bit b) new) next
    (each_next (StepsLive shared g.M.Memory.begins g.M.Memory.may_be stored) old mid new xs n e b c.loop-index.invariant.runs c.in_ok-step_by.ensures.steps) in
    let on = subst (λ k. StepRan stored shared k mid (plain_event e) (Ok b) new) c.loop-index.invariant.size
    c.in_ok-step_by.ensures.ran in
    let ran : RanLive (stored old.memory new.memory) shared size old.device (events_of ys) (n + bit b) new.device =
    subst (λ zs. RanLive (stored old.memory new.memory) shared size old.device (events_of zs) (n + bit b) new.device) next
    (ran_step stored shared size old mid xs n e b new c.loop-index.invariant.ran on) in
    elim c.if-branch.branch [
      | then-branch t ↦ record {
        runs = subst (λ k. StepsEach (StepsLive shared g.M.Memory.begins g.M.Memory.may_be stored) old (events_of ys) k new)
            (counts_one n c.if-branch.count b t.if-branch.true t.count-is) did;
        ran = subst (λ k. RanLive (stored old.memory new.memory) shared size old.device (events_of ys) k new.device)
            (counts_one n c.if-branch.count b t.if-branch.true t.count-is) ran;
        size = long;
        all = c.loop-index.invariant.all;
        few = omega (arith, t.count-is, c.loop-index.invariant.few);
      }
      | else-branch t ↦ record {
        runs = subst (λ k. StepsEach (StepsLive shared g.M.Memory.begins g.M.Memory.may_be stored) old (events_of ys) k new)
            (counts_none n c.if-branch.count b t.if-branch.false t.count-is) did;
        ran = subst (λ k. RanLive (stored old.memory new.memory) shared size old.device (events_of ys) k new.device)
            (counts_none n c.if-branch.count b t.if-branch.false t.count-is) ran;
        size = long;
        all = c.loop-index.invariant.all;
        few = omega (arith, t.count-is, c.loop-index.invariant.few);
      }
    ]

pub returns-in_err-step_by-clause-runs : goal.returns-in_err-step_by-clause-runs
returns-in_err-step_by-clause-runs g c =
    let e = c.index-events-index.result in
    let there = read_there c.args.events.now c.loop-index.index e
    (omega (arith, c.loop-index-test.true, c.loop-index.invariant.all)) c.index-events-index.is in
    all_refused (StepsLive g.M.Memory.shared g.M.Memory.begins g.M.Memory.may_be
    (Stored g.M.Memory.stored g.M.Memory.storing)) c.args.self.now c.loop-index.self
    c.step_by.new.self c.args.events.now c.loop-index.index e c.loop-index.count c.from_residual.result
    c.from_residual.ensures.0 there c.loop-index.invariant.runs (λ fault. c.in_err-step_by.ensures.steps)

pub returns-in_err-step_by-clause-promise : goal.returns-in_err-step_by-clause-promise
returns-in_err-step_by-clause-promise g c =
    let e = c.index-events-index.result in
    let shared = g.M.Memory.shared in
    let old = c.args.self.now in
    let new = c.step_by.new.self in
    let size = g.M.Memory.extent old.memory in
    let wrote = Stored g.M.Memory.stored g.M.Memory.storing old.memory new.memory in
    let es = events_of (take c.loop-index.index c.args.events.now) in
    let there = read_there c.args.events.now c.loop-index.index e
    (omega (arith, c.loop-index-test.true, c.loop-index.invariant.all)) c.index-events-index.is in
    let ran : RanLive wrote shared size old.device es c.loop-index.count new.device =
    ran_still g.M.Memory.stored g.M.Memory.storing g.met.M.Memory.none shared size old.device c.loop-index.self.device es
    c.loop-index.count new.device old.memory c.loop-index.self.memory new.memory c.in_err-step_by.ensures.ran.0
    c.in_err-step_by.ensures.ran.1 c.loop-index.invariant.ran in
    run_refused shared size old.device c.args.events.now c.loop-index.index e c.loop-index.count c.from_residual.result
    new.device c.from_residual.ensures.0 there
    (goes_on_live c.the_promise_is_kept.ensures c.every_run_goes_on.ensures.run c.a_live_run_is_a_run.ensures wrote shared size
    old.device es c.loop-index.count new.device ran)

pub returns-in_err-step_by-clause-stores : goal.returns-in_err-step_by-clause-stores
returns-in_err-step_by-clause-stores g c =
    let e = c.index-events-index.result in
    let shared = g.M.Memory.shared in
    let old = c.args.self.now in
    let new = c.step_by.new.self in
    let size = g.M.Memory.extent old.memory in
    let wrote = Stored g.M.Memory.stored g.M.Memory.storing old.memory new.memory in
    let es = events_of (take c.loop-index.index c.args.events.now) in
    let there = read_there c.args.events.now c.loop-index.index e
    (omega (arith, c.loop-index-test.true, c.loop-index.invariant.all)) c.index-events-index.is in
    let ran : RanLive wrote shared size old.device es c.loop-index.count new.device =
    ran_still g.M.Memory.stored g.M.Memory.storing g.met.M.Memory.none shared size old.device c.loop-index.self.device es
    c.loop-index.count new.device old.memory c.loop-index.self.memory new.memory c.in_err-step_by.ensures.ran.0
    c.in_err-step_by.ensures.ran.1 c.loop-index.invariant.ran in
    stores_refused wrote shared size old.device c.args.events.now c.loop-index.index e c.loop-index.count c.from_residual.result
    new.device c.from_residual.ensures.0 there
    (stores_along c.the_promise_is_kept.ensures c.every_run_goes_on.ensures.run c.a_live_run_is_a_run.ensures wrote shared size
    old.device es c.loop-index.count new.device ran)

pub returns-clause-promise : goal.returns-clause-promise
returns-clause-promise g c =
    let shared = g.M.Memory.shared in
    let old = c.args.self.now in
    let new = c.loop-index.self in
    let size = g.M.Memory.extent old.memory in
    let wrote = Stored g.M.Memory.stored g.M.Memory.storing old.memory new.memory in
    let whole = take_all c.loop-index.index c.args.events.now
    (omega (arith, c.loop-index-test.false, c.loop-index.invariant.all)) in
    let ran : RanLive wrote shared size old.device (events_of c.args.events.now) c.loop-index.count new.device =
    subst (λ xs. RanLive wrote shared size old.device (events_of xs) c.loop-index.count new.device) whole
    c.loop-index.invariant.ran in
    goes_on_live c.the_promise_is_kept.ensures c.every_run_goes_on.ensures.run c.a_live_run_is_a_run.ensures wrote shared size
    old.device (events_of c.args.events.now) c.loop-index.count new.device ran

pub returns-clause-stores : goal.returns-clause-stores
returns-clause-stores g c =
    let shared = g.M.Memory.shared in
    let old = c.args.self.now in
    let new = c.loop-index.self in
    let size = g.M.Memory.extent old.memory in
    let wrote = Stored g.M.Memory.stored g.M.Memory.storing old.memory new.memory in
    let whole = take_all c.loop-index.index c.args.events.now
    (omega (arith, c.loop-index-test.false, c.loop-index.invariant.all)) in
    let ran : RanLive wrote shared size old.device (events_of c.args.events.now) c.loop-index.count new.device =
    subst (λ xs. RanLive wrote shared size old.device (events_of xs) c.loop-index.count new.device) whole
    c.loop-index.invariant.ran in
    stores_along c.the_promise_is_kept.ensures c.every_run_goes_on.ensures.run c.a_live_run_is_a_run.ensures wrote shared size
    old.device (events_of c.args.events.now) c.loop-index.count new.device ran
