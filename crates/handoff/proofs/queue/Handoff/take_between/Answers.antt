use Rattle.std.proofs.Common.{sym, ◌∙◌, subst, arith, inl, inr}
use Rattle.handoff.specs.Inner.Seats.{WasEmpty}
use Rattle.handoff.proofs.Lists.{below_or_at}
use Rattle.handoff.proofs.queue.Handoff.take_between.Goals as goal

pub loop-at-preserved : goal.loop-at-preserved
loop-at-preserved g c =
    let old = c.loop-at.invariant in
    let at = c.loop-at.at in
    record {
      same = c.in_default.ensures.unchanged ∙ old.same;
      low = omega (arith, old.low);
      empty = λ q le lt.
          elim (below_or_at q at lt) [
            | inl less ↦ old.empty q le less
            | inr here ↦
                subst (WasEmpty c.args.seat.now) (sym here)
                (subst (λ s. WasEmpty s at) old.same c.in_default.ensures.empty)
          ];
    }
