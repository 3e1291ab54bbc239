use Rattle.std.proofs.Common.{◌+◌, take, refl, sym, subst, arith}
use Rattle.world.specs.Steps.{IsRun}
use Rattle.device_steps.proofs.Sequences.{read_there}
use Rattle.world.proofs.Runs.{bit, take_next, run_on, counts_one, counts_none}
use Rattle.world.proofs.world.World.run.Goals.{then-branch, else-branch}
use Rattle.world.proofs.world.World.run.Goals as goal

pub loop-index-preserved : goal.loop-index-preserved
loop-index-preserved c =
    let e = c.index-events-index.result in
    let b = c.in_ok-step_by.field-0 in
    let n = c.loop-index.count in
    let there = read_there c.args.events.now c.loop-index.index e
    (omega (arith, c.loop-index-test.true, c.loop-index.invariant.all)) c.index-events-index.is in
    let ran = run_on c.args.self.now c.loop-index.self (take c.loop-index.index c.args.events.now) n e b c.step_by.new.self
    c.loop-index.invariant.runs c.in_ok-step_by.ensures in
    let here : IsRun c.args.self.now (take (c.loop-index.index + 1) c.args.events.now) (n + bit b) c.step_by.new.self =
    subst (λ xs. IsRun c.args.self.now xs (n + bit b) c.step_by.new.self)
    (sym (take_next c.loop-index.index c.args.events.now e there)) ran in
    elim c.if-branch.branch [
      | then-branch t ↦ record {
        runs = subst (λ k. IsRun c.args.self.now (take (c.loop-index.index + 1) c.args.events.now) k c.step_by.new.self)
            (counts_one n c.if-branch.count b t.if-branch.true t.count-is) here;
        all = refl;
        few = omega (arith, t.count-is, c.loop-index.invariant.few);
      }
      | else-branch t ↦ record {
        runs = subst (λ k. IsRun c.args.self.now (take (c.loop-index.index + 1) c.args.events.now) k c.step_by.new.self)
            (counts_none n c.if-branch.count b t.if-branch.false t.count-is) here;
        all = refl;
        few = omega (arith, t.count-is, c.loop-index.invariant.few);
      }
    ]
