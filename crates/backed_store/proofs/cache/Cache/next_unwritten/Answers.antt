use Rattle.std.proofs.Common.{◌∙◌, ap}
use Rattle.backed_store.specs.Marks.{State, is_dirty, is_rewritten}
use Rattle.backed_store.proofs.Kept.{caches-owing-then}
use Rattle.backed_store.proofs.cache.Cache.next_unwritten.Goals as goal

pub returns-then-now-clause-owing : goal.returns-then-now-clause-owing
returns-then-now-clause-owing c = caches-owing-then _ _ _ c.loop-page.invariant.owing c.take_unwritten.ensures.owing

pub returns-clause-owing : goal.returns-clause-owing
returns-clause-owing c = caches-owing-then _ _ _ c.loop-page.invariant.owing c.take_unwritten.ensures.owing

pub returns-clause-kept : goal.returns-clause-kept
returns-clause-kept c =
    let i = c.loop-page.invariant in
    let k = c.in_default.ensures.kept in
    record {
      states = λ p. k.states p ∙ i.states p;
      bytes = λ p held. k.bytes p (ap (λ (s : State). s.held) (i.states p) ∙ held) ∙ i.bytes p held;
      numbers = λ p is. k.numbers p (ap (λ (s : State). is_dirty s) (i.states p) ∙ is) ∙ i.numbers p is;
      again = λ p is. k.again p (ap (λ (s : State). is_rewritten s) (i.states p) ∙ is) ∙ i.again p is;
      owing = returns-clause-owing c;
    }
