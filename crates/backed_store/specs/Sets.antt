-- Pages that stand in an order.
use Rattle.std.specs.Prelude.{ℕ, Bool}
use Rattle.std.specs.Ordering.{nat_cmp, ordering_then}
use Rattle.std.specs.BTreeSet.{contains}
use Rattle.backed_store.specs.declared.page_set.PageSet.{PageSet}
use Rattle.backed_store.specs.declared.change_set.ChangeSet.{ChangeSet}

-- whether page p is one of them
abbrev pub has : PageSet → ℕ → Bool
has s p = contains nat_cmp s.pages p

-- whether change n of page p is one of them
abbrev pub has_at : ChangeSet → ℕ → ℕ → Bool
has_at s n p = contains (λ x y. ordering_then (nat_cmp x.0 y.0) (nat_cmp x.1 y.1)) s.changes (n, p)
