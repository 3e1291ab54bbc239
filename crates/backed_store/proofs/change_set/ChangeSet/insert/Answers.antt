use Rattle.std.proofs.Common.{◌≡◌, true, ◌∙◌, ap, ◌||◌, cond, Bool, false, refl}
use Rattle.backed_store.specs.Sets.{has_at}
use Rattle.backed_store.proofs.Pairs.{same-pair}
use Rattle.backed_store.proofs.change_set.ChangeSet.insert.Goals as goal

or-cond : (t b : Bool) → cond t true b ≡ (t || b)
or-cond true b = refl
or-cond false b = refl

pub returns-in-Ok-clause-ok : goal.returns-in-Ok-clause-ok
returns-in-Ok-clause-ok c = λ n p.
    let was = has_at c.args.self.now n p in
    c.in-Ok.ensures.updates.0 (n, p) ∙ ap (λ t. cond t true was) (same-pair c.args.number c.args.page n p) ∙ or-cond _ was
