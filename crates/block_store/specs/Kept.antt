-- What pages keep.
use Rattle.std.specs.Prelude.{ℕ, ◌-◌, ◌/◌, ◌%◌, ◌==◌, List, [], Option, Some, None, nat_lt, if◌then◌else◌}
use Rattle.std.specs.List.{slice_get}
use Rattle.block_store.specs.Blocks.{Blocks}
use Rattle.block_store.specs.Pages.{paged}
use Rattle.block_store.specs.Tables.{in_slots, more_rows}
use Rattle.block_store.specs.declared.page.Page.{Page}
use Rattle.block_store.specs.declared.table.Row.{Row}
use Rattle.block_store.specs.declared.table.Level.{Level}
use Rattle.block_store.specs.declared.pages.Pages.{Pages}

-- the bytes of a page, if there is one
abbrev pub bytes_of : Option Page → List ℕ
bytes_of None = []
bytes_of (Some page) = page.bytes.items

-- the bytes that are kept of page p of a row
abbrev pub row_kept : List Page → ℕ → List ℕ
row_kept row p = bytes_of (slice_get row p)

-- the bytes that are kept of page p of rows of 64 pages
abbrev pub kept_in : (ℕ → List Page) → ℕ → List ℕ
kept_in rows p = row_kept (rows (p / 64)) (p % 64)

-- what a table of tables says of row n, where its slots have so many rows and say `at` of them
abbrev pub in_level : {T A : Type 0} → ℕ → (T → ℕ → A) → A → Level T → ℕ → A
in_level rows at none level n = in_slots rows at none level.slots.items n

abbrev pub Tree : Type 0
Tree = Level (Level (Level (Level (Level Row))))

-- what a tree says of row n
abbrev pub in_tree : {A : Type 0} → (Row → ℕ → A) → A → Tree → ℕ → A
in_tree at none tree n =
    in_level (more_rows (more_rows (more_rows (more_rows 1)))) (in_level (more_rows (more_rows (more_rows 1))) (in_level (more_rows (more_rows 1)) (in_level (more_rows 1) (in_level 1 at none) none) none) none) none tree n

-- the pages of row n
abbrev pub tree_row : Tree → ℕ → List Page
tree_row tree n = in_tree (λ row _. row.pages.items) [] tree n

-- the bytes that are kept of page p
abbrev pub kept : Pages → ℕ → List ℕ
kept pages p = kept_in (tree_row pages.held) p

-- the blocks of the pages
abbrev pub blocks_of : Pages → Blocks
blocks_of pages b = paged (kept pages) b

-- the bytes that are kept of page p, where a row begins at page `start`
abbrev pub kept_from : ℕ → List Page → ℕ → List ℕ
kept_from start row p = if nat_lt p start then [] else row_kept row (p - start)

-- the bytes that are kept of page p, of two pages
abbrev pub kept_at_ends : ℕ → ℕ → List ℕ → List ℕ → ℕ → List ℕ
kept_at_ends start end head tail p = if p == start then head else if p == end then tail else []
