use Rattle.std.proofs.Common.{◌≡◌, true, false, [], ◌∷◌, length, sym, ap, ◌∙◌, subst, arith, length-append}
use Rattle.unit_log.specs.Inner.Folding.{met_one}
use Rattle.unit_log.specs.Inner.Recorded.{AreFirst}
use Rattle.unit_log.proofs.Bounds.{first_more}
use Rattle.unit_log.proofs.log.count_up.Goals as goal

unlike : false ≡ true → ⊥
unlike e = cc

pub count-requires-clause-mark : goal.count-requires-clause-mark
count-requires-clause-mark c =
    let from = c.len-from.ensures in
    let le = c.loop-place.auto.place in
    sym (ap met_one c.at.ensures) ∙ c.requires.calm c.loop-place.place (omega (arith, from, le))

pub count-requires-clause-commit : goal.count-requires-clause-commit
count-requires-clause-commit c = λ on. absurd (unlike (sym (c.loop-place.invariant.3 ∙ c.requires.keeps) ∙ on))

pub loop-place-preserved : goal.loop-place-preserved
loop-place-preserved c =
    let was = c.loop-place.invariant in
    let is = c.count.ensures.kinds in
    let more = ap length is in
    let one = length-append c.loop-place.folded.kinds (c.at.result ∷ []) in
    let so_far = was.0 in (
      omega (arith, more, one, so_far),
      subst (λ w. AreFirst w c.args.kinds.now.kinds) (sym is)
          (first_more c.loop-place.place c.loop-place.folded.kinds c.args.kinds.now.kinds c.at.result was.1 was.0 c.at.ensures),
      c.count.ensures.forgotten ∙ was.2,
      c.count.ensures.keeps ∙ was.3,
    )
