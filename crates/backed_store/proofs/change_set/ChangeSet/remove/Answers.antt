use Rattle.std.proofs.Common.{◌≡◌, true, false, ◌∙◌, ap, ◌&&◌, not, cond, Bool, refl}
use Rattle.backed_store.specs.Sets.{has_at}
use Rattle.backed_store.proofs.Pairs.{same-pair}
use Rattle.backed_store.proofs.change_set.ChangeSet.remove.Goals as goal

and-cond : (t b : Bool) → cond t false b ≡ (not t && b)
and-cond true b = refl
and-cond false b = refl

pub returns : goal.returns
returns c = λ n p.
    let was = has_at c.args.self.now n p in
    c.remove-was.ensures.updates.0 (n, p) ∙ ap (λ t. cond t false was) (same-pair c.args.number c.args.page n p) ∙ and-cond _ was
