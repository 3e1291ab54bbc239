use Rattle.std.proofs.Common.{None, refl, sym, ap, ◌∙◌}
use Rattle.unit_log.specs.Folding.{Folded}
use Rattle.unit_log.specs.Runs.{committed}
use Rattle.unit_log.proofs.Marks.{folded_more}
use Rattle.unit_log.proofs.Tables.{folds_nothing}
use Rattle.unit_log.proofs.folding.Folding.count.Goals as goal

pub invariant_of-self : goal.invariant_of-self
invariant_of-self c =
    let u = c.self.inside in
    folded_more u.keeps u.len _ u.forgotten None u.marks.items _ u.commits _ u.gone.items _ c.args.kind c.self.invariant
    (sym c.requires.mark) refl refl
    (folds_nothing u.keeps u.len (committed c.args.kind) u.commits (λ on. c.requires.commit (sym (ap (λ (f : Folded). f.keeps) c.self.view_is) ∙ on)))
    c.push.ensures
