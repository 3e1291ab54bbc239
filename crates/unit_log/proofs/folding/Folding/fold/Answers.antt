use Rattle.std.proofs.Common.{None, refl, sym}
use Rattle.unit_log.specs.Runs.{committed}
use Rattle.unit_log.proofs.Marks.{folded_more}
use Rattle.unit_log.proofs.Tables.{folds_nothing}
use Rattle.unit_log.proofs.folding.Folding.fold.Goals as goal

pub invariant_of-self : goal.invariant_of-self
invariant_of-self c =
    let u = c.self.inside in
    let plain = c.if-only_counts.true in
    folded_more u.keeps u.len _ u.forgotten None u.marks.items _ u.commits _ u.gone.items _ c.args.kind c.self.invariant
    (sym (c.only_counts.ensures.mark plain)) refl refl
    (folds_nothing u.keeps u.len (committed c.args.kind) u.commits (c.only_counts.ensures.commit plain))
    c.push.ensures
