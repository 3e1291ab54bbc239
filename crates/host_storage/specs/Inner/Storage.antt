-- What a host's storage has of a disk, in memory.
use Rattle.block_store.specs.Blocks.{Blocks}
use Rattle.block_store.specs.Kept as pages
use Rattle.host_storage.specs.declared.storage.Storage.{Storage}

-- the blocks that it was last given
abbrev pub given_blocks : Storage → Blocks
given_blocks s b = pages.blocks_of s.given.pages b

-- those that it keeps
abbrev pub kept_blocks : Storage → Blocks
kept_blocks s b = pages.blocks_of s.kept.pages b
