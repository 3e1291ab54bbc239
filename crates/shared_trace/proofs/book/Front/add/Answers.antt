use Rattle.std.proofs.Common.{◌≡◌, ap, sym, ◌∙◌, subst, arith}
use Rattle.std.specs.Prelude.{reverse}
use Rattle.shared_trace.specs.Inner.Rules.{word_of}
use Rattle.shared_trace.specs.Inner.Logs.{IsPast}
use Rattle.shared_trace.proofs.Adding.{adds_moves, adds_then, Comes}
use Rattle.shared_trace.proofs.book.Front.add.Goals as goal

pub compare_exchange-found-requires : goal.compare_exchange-found-requires
compare_exchange-found-requires g c =
    let L = g.L.Laws in
    let b = c.args.book.now in
    let h : c.index.result.now ≡ word_of c.args.part g.J.Naming.book =
    c.index.ensures ∙ b.words_are c.args.part c.index.result.now (omega (arith, b.row, c.requires.part)) in
    let offer = c.plain-offer.ensures in
    let pen = c.no_pen-pen.ensures in
    let mine = ap (λ s. s.book) c.again-seen.ensures ∙ c.self.invariant.0 in
    let v = c.again-seen.result.log in
    let seen : reverse v ≡ c.args.self.now = ap (λ s. reverse s.log) c.again-seen.ensures ∙ c.self.view_is in
    let comes : Comes L.parts L.part_of L.may v c.args.part c.args.count g.S.Said.event =
    λ past pre. c.requires.may past (subst (λ l. IsPast l past) seen pre) in (
      ap (λ w. w.tracked) h,
      mine ∙ sym (ap (λ w. w.book) h),
      pen.0 ∙ (mine ∙ sym (ap (λ w. w.book) h)),
      offer.0,
      rw (ap (λ w. w.key) h, pen.1, offer.1, offer.3)
          (adds_moves L.parts L.part_of L.may c.args.part c.args.count g.S.Said.event v c.requires.part c.requires.of comes),
    )

pub returns : goal.returns
returns g c =
    let L = g.L.Laws in
    let b = c.args.book.now in
    let h : c.index.result.now ≡ word_of c.args.part g.J.Naming.book =
    c.index.ensures ∙ b.words_are c.args.part c.index.result.now (omega (arith, b.row, c.requires.part)) in
    let e = c.compare_exchange-found.ensures in
    let seen : reverse c.again-seen.result.log ≡ c.args.self.now =
    ap (λ s. reverse s.log) c.again-seen.ensures ∙ c.self.view_is in
    adds_then L.parts L.part_of L.may c.again-seen.result.log c.compare_exchange-found.new.seen.log c.index.result.now.key
    c.args.part c.compare_exchange-found.result c.args.count c.plain-offer.result.ask g.S.Said.event c.args.self.now
    (ap (λ w. w.key) h) c.plain-offer.ensures.1 seen e.7 (omega (arith, c.if-found-count.false))
