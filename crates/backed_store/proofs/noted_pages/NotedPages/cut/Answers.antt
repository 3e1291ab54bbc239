use Rattle.std.proofs.Common.{rules, ◌≡◌, true, nat_lt, ℕ, nat_eq, ap, ◌∙◌, arith}
use Rattle.std.specs.List.{list_any}
use Rattle.std.proofs.lemmas.Bool.Decides.{nat_tests}
use Rattle.std.proofs.lemmas.Fn.{filter_same}
use Rattle.std.proofs.lemmas.Map.Views.{any-filter_same}
use Rattle.backed_store.proofs.noted_pages.NotedPages.cut.Goals as goal

pub returns : goal.returns
returns c = λ p.
    let end = c.args.end in
    let old = c.args.self.now.pages.items in
    let kept = filter_same _ (λ k. nat_lt k end) _ (λ k b f t. search rules) old c.retain.new.self.items c.retain.ensures.filtered in
    let same : (k : ℕ) → nat_eq p k ≡ true → nat_lt k end ≡ nat_lt p end = λ k is. grind (arith, nat_tests, is) in
    ap (λ ks. list_any (nat_eq p) ks) kept ∙ any-filter_same (nat_eq p) (λ k. nat_lt k end) (nat_lt p end) same old
