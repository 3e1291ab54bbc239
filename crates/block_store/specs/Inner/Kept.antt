-- Rests on `specs/Kept.antt`; no promise rests on it.
use Rattle.std.specs.Prelude.{ℕ, ◌/◌, ◌%◌, ◌&&◌, Bool, true, false, List, nat_lt, length}
use Rattle.block_store.specs.Blocks.{Blocks}
use Rattle.block_store.specs.Pages.{paged}
use Rattle.block_store.specs.Kept.{row_kept, Tree, in_tree, tree_row, kept}
use Rattle.block_store.specs.declared.page.Page.{Page}
use Rattle.block_store.specs.declared.pages.Pages.{Pages}

-- the blocks of a row
abbrev pub row_blocks : List Page → Blocks
row_blocks row b = paged (row_kept row) b

-- whether page p of a row keeps bytes
abbrev pub is_made_in : List Page → ℕ → Bool
is_made_in row p = nat_lt 0 (length (row_kept row p))

-- whether row n has a slot
abbrev pub tree_has : Tree → ℕ → Bool
tree_has tree n = in_tree (λ _ _. true) false tree n

-- whether page p keeps bytes
abbrev pub is_made : Pages → ℕ → Bool
is_made pages p = nat_lt 0 (length (kept pages p))

-- whether there is a slot for page p
abbrev pub has_slot : Pages → ℕ → Bool
has_slot pages p = tree_has pages.held (p / 64) && nat_lt (p % 64) (length (tree_row pages.held (p / 64)))
