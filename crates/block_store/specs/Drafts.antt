-- Blocks that are prepared away from a store.
use Rattle.std.specs.Prelude.{ℕ, ◌+◌, ◌/◌}
use Rattle.block_store.specs.Blocks.{Blocks}
use Rattle.block_store.specs.Pages.{paged}
use Rattle.block_store.specs.Kept.{kept_at_ends, kept_from}
use Rattle.block_store.specs.declared.edges.Edges.{Edges}
use Rattle.block_store.specs.declared.edges.Prepared.{Prepared}

-- a range of blocks, and what the pages of the range have
pub record Draft : Type 0 where
  pub first : ℕ
  pub count : ℕ
  pub blocks : Blocks

-- what edges have
abbrev pub edges_draft : Edges → Draft
edges_draft e = record { first = e.first; count = e.count; blocks = paged (kept_at_ends (e.first / 8) ((e.first + e.count) / 8) e.head.bytes.items e.tail.bytes.items) }

-- what new pages have
abbrev pub prepared_draft : Prepared → Draft
prepared_draft p = record { first = p.first; count = p.count; blocks = paged (kept_from (p.first / 8) p.row.items) }
