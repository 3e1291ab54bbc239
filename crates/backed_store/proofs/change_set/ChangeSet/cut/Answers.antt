use Rattle.std.proofs.Common.{rules, ◌≡◌, true, ℕ, nat_lt, ap, ◌∙◌, arith}
use Rattle.std.specs.Ordering.{is_eq}
use Rattle.std.specs.List.{list_any}
use Rattle.std.proofs.lemmas.Bool.Decides.{nat_tests}
use Rattle.std.proofs.lemmas.Fn.{filter_same}
use Rattle.std.proofs.lemmas.Map.Views.{any-filter_same}
use Rattle.backed_store.proofs.Pairs.{by_number, same-pair}
use Rattle.backed_store.proofs.change_set.ChangeSet.cut.Goals as goal

pub returns : goal.returns
returns c = λ n p.
    let end = c.args.end in
    let old = c.args.self.now.changes.keys in
    let kept = filter_same _ (λ (k : ℕ × ℕ). nat_lt k.1 end) _ (λ k b f t. search rules) old c.retain.new.self.keys c.retain.ensures.filtered in
    let same : (k : ℕ × ℕ) → is_eq (by_number (n, p) k) ≡ true → nat_lt k.1 end ≡ nat_lt p end =
    λ k is. let pair = same-pair n p k.0 k.1 in grind (arith, nat_tests, is, pair) in
    ap (λ ks. list_any (λ k. is_eq (by_number (n, p) k)) ks) kept ∙ any-filter_same (λ k. is_eq (by_number (n, p) k)) (λ (k : ℕ × ℕ). nat_lt k.1 end) (nat_lt p end) same old
