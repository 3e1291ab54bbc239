-- Pages that are noted as lost, or as denied.
use Rattle.std.specs.Prelude.{ℕ, Bool, List, nat_eq}
use Rattle.std.specs.List.{list_any}
use Rattle.backed_store.specs.declared.noted_pages.NotedPages.{NotedPages}

-- the pages, the oldest first
abbrev pub noted : NotedPages → List ℕ
noted l = l.pages.items

-- whether page p is one of them
abbrev pub is_noted : NotedPages → ℕ → Bool
is_noted l p = list_any (nat_eq p) (noted l)
