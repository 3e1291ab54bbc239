use Rattle.std.proofs.Common.{◌≡◌, ap, sym, ◌∙◌, arith}
use Rattle.std.specs.Prelude.{reverse}
use Rattle.shared_trace.specs.Inner.Rules.{word_of}
use Rattle.shared_trace.specs.Events.{count_of}
use Rattle.shared_trace.proofs.Adding.{looks_moves}
use Rattle.shared_trace.proofs.book.Front.count.Goals as goal

pub load-requires : goal.load-requires
load-requires g c =
    let L = g.L.Laws in
    let b = c.args.book.now in
    let h : c.index.result.now ≡ word_of c.args.part g.J.Naming.book =
    c.index.ensures ∙ b.words_are c.args.part c.index.result.now (omega (arith, b.row, c.requires.part)) in
    let offer = c.plain-offer.ensures in (
      ap (λ w. w.tracked) h,
      c.self.invariant.0 ∙ sym (ap (λ w. w.book) h),
      offer.0,
      rw (ap (λ w. w.key) h, offer.3)
          (looks_moves L.parts L.part_of L.may c.args.part c.plain-offer.result.ask c.self.inside.seen.log c.requires.part),
    )

pub returns-clause-count : goal.returns-clause-count
returns-clause-count g c =
    let b = c.args.book.now in
    let h : c.index.result.now ≡ word_of c.args.part g.J.Naming.book =
    c.index.ensures ∙ b.words_are c.args.part c.index.result.now (omega (arith, b.row, c.requires.part)) in
    let told = c.load.ensures.6.1 in
    ap (λ k. count_of g.L.Laws.part_of k (reverse c.load.new.seen.log)) (sym (ap (λ w. w.key) h)) ∙ told.0
