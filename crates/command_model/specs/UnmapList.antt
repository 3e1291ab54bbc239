-- The parameter list of UNMAP, SBC-3 §5.28.2.
use Rattle.std.specs.Prelude.{ℕ, zero, suc, ◌-◌, ◌/◌, Bool, List, [], ◌∷◌, length, drop, min, sum_by, slice_range}
use Rattle.std.specs.List.{list_any, list_all}
use Rattle.std.specs.Int.{w16, w32, w64, from_be_bytes}
use Rattle.block_store.specs.Blocks.{is_within}
use Rattle.command_model.specs.Capacity.{is_in_range}

-- the block descriptor at the front of the bytes: the logical block address in bytes 0 to 7, the
-- number of blocks in bytes 8 to 11
abbrev pub descriptor : List ℕ → ℕ × ℕ
descriptor bytes =
    (from_be_bytes w64 (slice_range bytes 0 8), from_be_bytes w32 (slice_range bytes 8 12))

-- the first so many block descriptors of the bytes, 16 bytes for each
abbrev pub descriptors_in : ℕ → List ℕ → List (ℕ × ℕ)
descriptors_in zero bytes = []
descriptors_in (suc later) bytes = descriptor bytes ∷ descriptors_in later (drop 16 bytes)

-- how many are taken: the whole ones in the block descriptor data length, bytes 2 and 3, as far as
-- the list has them behind its header of 8 bytes
unfoldable pub descriptor_count : List ℕ → ℕ
descriptor_count bytes = min (from_be_bytes w16 (slice_range bytes 2 4)) (length bytes - 8) / 16

-- the descriptors that are taken, each as its address and its number of blocks
abbrev pub descriptors : List ℕ → List (ℕ × ℕ)
descriptors bytes = descriptors_in (descriptor_count bytes) (drop 8 bytes)

-- how many blocks they name in all
abbrev pub blocks_named : List (ℕ × ℕ) → ℕ
blocks_named taken = sum_by (λ d. d.1) taken

-- whether each lies below the capacity
abbrev pub are_in_range : ℕ → List (ℕ × ℕ) → Bool
are_in_range blocks taken = list_all (λ d. is_in_range blocks d.0 d.1) taken

-- whether one of them names block b
abbrev pub is_named : List (ℕ × ℕ) → ℕ → Bool
is_named taken b = list_any (λ d. is_within d.0 d.1 b) taken
