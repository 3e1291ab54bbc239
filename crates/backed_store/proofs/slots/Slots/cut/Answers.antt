use Rattle.std.proofs.Common.{rules, ◌≡◌, true, ℕ, nat_lt, nat_eq, ap, ◌∙◌, arith}
use Rattle.std.proofs.lemmas.Bool.Decides.{nat_tests}
use Rattle.std.proofs.lemmas.Map.Made.{filter_same_pairs}
use Rattle.std.proofs.lemmas.Map.Entries.{lookup-filter-keys}
use Rattle.std.specs.Map.{lookup}
use Rattle.backed_store.proofs.slots.Slots.cut.Goals as goal

pub returns-clause-slots : goal.returns-clause-slots
returns-clause-slots c = λ p.
    let end = c.args.end in
    let old = c.args.self.now.pages.entries in
    let kept = filter_same_pairs _ (λ e. nat_lt e.0 end) _ (λ k v b w f t. search rules) old c.retain.new.self.entries c.retain.ensures.filtered in
    let same : (k : ℕ) → nat_eq p k ≡ true → nat_lt k end ≡ nat_lt p end = λ k is. grind (arith, nat_tests, is) in
    ap (λ es. lookup (nat_eq p) es) kept ∙ lookup-filter-keys (nat_eq p) (λ k. nat_lt k end) (nat_lt p end) same old
