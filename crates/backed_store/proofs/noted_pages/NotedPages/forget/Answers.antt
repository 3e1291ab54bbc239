use Rattle.std.proofs.Common.{rules, ◌≡◌, ◌==◌, true, not, ℕ, nat_eq, ap, ◌∙◌, arith}
use Rattle.std.specs.List.{list_any}
use Rattle.std.proofs.lemmas.Bool.Decides.{nat_tests}
use Rattle.std.proofs.lemmas.Fn.{filter_same}
use Rattle.std.proofs.lemmas.Map.Views.{any-filter_same}
use Rattle.backed_store.proofs.noted_pages.NotedPages.forget.Goals as goal

pub returns-clause-noted : goal.returns-clause-noted
returns-clause-noted c =
    let page = c.args.page in
    let old = c.args.self.now.pages.items in
    filter_same _ (λ k. not (k == page)) _ (λ k b f t. search rules) old c.retain.new.self.items c.retain.ensures.filtered

pub returns-clause-each : goal.returns-clause-each
returns-clause-each c = λ p.
    let page = c.args.page in
    let old = c.args.self.now.pages.items in
    let same : (k : ℕ) → nat_eq p k ≡ true → not (k == page) ≡ not (p == page) = λ k is. grind (arith, nat_tests, is) in
    ap (λ ks. list_any (nat_eq p) ks) (returns-clause-noted c)
    ∙ any-filter_same (nat_eq p) (λ k. not (k == page)) (not (p == page)) same old
