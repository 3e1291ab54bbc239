-- A write that was prepared away from the blocks.
use Rattle.std.specs.Prelude.{◌≡◌, ℕ, ◌-◌, List, IsTrue}
use Rattle.cdb.specs.declared.commands.Command.{Command}
use Rattle.cdb.specs.declared.commands.Command.TheVariants.{Write}
use Rattle.block_store.specs.Blocks.{nth_block, is_within}
use Rattle.block_store.specs.Drafts.{Draft}

-- the draft is of this command, a WRITE, with this data
abbrev pub IsOf : Command → List ℕ → Draft → Type 0
IsOf command bytes draft =
    (command ≡ Write draft.first draft.count)
    × ((b : ℕ) → IsTrue (is_within draft.first draft.count b) → draft.blocks b ≡ nth_block bytes (b - draft.first))
