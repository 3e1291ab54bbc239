-- Rests on `specs/Drafts.antt`; no promise rests on it.
use Rattle.std.specs.Prelude.{◌≡◌, ℕ, IsTrue}
use Rattle.block_store.specs.Blocks.{Blocks}
use Rattle.block_store.specs.Inner.Pages.{is_beside}
use Rattle.block_store.specs.Drafts.{Draft}

-- beside the range these are the blocks of the draft
abbrev pub IsAsCopied : Draft → Blocks → Type 0
IsAsCopied draft blocks = (b : ℕ) → IsTrue (is_beside draft.first draft.count b) → blocks b ≡ draft.blocks b
