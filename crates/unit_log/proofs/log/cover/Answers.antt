use Rattle.std.proofs.Common.{[], ◌∷◌, length, sym, ap, ◌∙◌, subst, arith, length-append}
use Rattle.unit_log.specs.Inner.Recorded.{AreFirst}
use Rattle.unit_log.proofs.Bounds.{first_more}
use Rattle.unit_log.proofs.log.cover.Goals as goal

pub loop-place-preserved : goal.loop-place-preserved
loop-place-preserved c =
    let was = c.loop-place.invariant in
    let is = c.in_ok-fold.ensures.ok in
    let more = ap length is in
    let one = length-append c.loop-place.folded.kinds (c.stands_at.result ∷ []) in
    let so_far = was.1 in
    let at = was.0 in
    let behind = c.index_behind-index.ensures in (
      omega (arith, at, behind),
      omega (arith, more, one, so_far),
      subst (λ w. AreFirst w c.args.kinds.now.kinds) (sym is)
          (first_more c.loop-place.place c.loop-place.folded.kinds c.args.kinds.now.kinds c.stands_at.result was.2 was.1 c.stands_at.ensures),
      c.fold.ensures.forgotten ∙ was.3,
      c.fold.ensures.keeps ∙ was.4,
    )
