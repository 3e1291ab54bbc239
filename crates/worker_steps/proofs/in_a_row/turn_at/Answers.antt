use Rattle.std.proofs.Common.{subst, ap, arith}
use Rattle.std.specs.Bool.{OnFalse}
use Rattle.worker_steps.specs.Inner.Tallying.{HasNoJob}
use Rattle.worker_steps.proofs.Tallying.{turn_tallies, run_tallies}
use Rattle.worker_steps.proofs.in_a_row.turn_at.Goals as goal

pub invariant_of-post-then-watches : goal.invariant_of-post-then-watches
invariant_of-post-then-watches g c =
    let post = c.args.post.now in
    let none = subst (λ b. OnFalse b (HasNoJob post.hand)) c.if-has_job.false c.has_job.ensures in
    let call = c.leave_enter_on.ensures in
    record { even = turn_tallies post.lost _ _ post.kept post.hand _ _ _ _ c.leave_enter_on.new.hand _ _ none call.did.3 (omega (arith, call.counted.1, ap (λ z. z.now.share.amount) c.units-units.ensures.seat)) post.even }

pub invariant_of-post-2 : goal.invariant_of-post-2
invariant_of-post-2 g c =
    let post = c.args.post.now in
    let none = subst (λ b. OnFalse b (HasNoJob post.hand)) c.if-has_job.false c.has_job.ensures in
    let call = c.leave_enter_commit_on.ensures in
    record { even = run_tallies _ post.lost _ _ post.kept post.hand _ _ _ _ _ c.leave_enter_commit_on.new.hand _ _ none call.did.3 (omega (arith, call.counted.1, ap (λ z. z.now.share.amount) c.units-units.ensures.seat)) post.even }
