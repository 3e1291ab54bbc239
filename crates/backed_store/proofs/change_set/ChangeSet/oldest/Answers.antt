use Rattle.backed_store.proofs.Pairs.{least-number}
use Rattle.backed_store.proofs.change_set.ChangeSet.oldest.Goals as goal

pub returns-in-Some-clause-least : goal.returns-in-Some-clause-least
returns-in-Some-clause-least c = λ n p is. least-number _ _ n p (c.in-Some.ensures.least (n, p) is)
