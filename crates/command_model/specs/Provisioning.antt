-- Which blocks are there, as GET LBA STATUS tells it (SBC-3 §5.4), by what each contains.
use Rattle.std.specs.Prelude.{ℕ, ◌-◌, ◌==◌, Bool, List, [], ◌∷◌, ◌++◌, min, replicate, if◌then◌else◌}
use Rattle.std.specs.List.{list_all, prefix_len, range_with_len}
use Rattle.std.specs.Int.{w32, w64, to_be_bytes}
use Rattle.block_store.specs.Blocks.{Blocks}

-- whether the bytes of a block are zeros
abbrev pub is_zero : List ℕ → Bool
is_zero block = list_all (λ byte. byte == 0) block

-- the provisioning status of a block, SBC-3 §5.4: 1h, deallocated, where its bytes are zeros, as those of a deallocated
-- block are (LBPRZ): a unit may deallocate such a block by itself (§4.7.3). Else 0h, mapped
abbrev pub provisioning : List ℕ → ℕ
provisioning block = if is_zero block then 0x01 else 0x00

-- [own] how many blocks from an address on are looked at: up to the end, and at most as many as one command reads
abbrev pub looked_at : ℕ → ℕ → ℕ
looked_at capacity lba = min (capacity - lba) 2048

-- how many of them have the status of the first, before any other
abbrev pub alike : Blocks → ℕ → ℕ → ℕ
alike blocks lba count =
    prefix_len (λ b. provisioning (blocks b) == provisioning (blocks lba)) (range_with_len lba count)

-- the data of GET LBA STATUS, SBC-3 §5.4: 20 bytes follow byte 3; one descriptor: address, number of blocks, status
unfoldable pub status_data : ℕ → ℕ → ℕ → List ℕ
status_data lba count status =
    to_be_bytes w32 20 ++ replicate 4 0x00
    ++ to_be_bytes w64 lba ++ to_be_bytes w32 count ++ (status ∷ []) ++ replicate 3 0x00

unfoldable pub lba_status : ℕ → ℕ → Blocks → List ℕ
lba_status capacity lba blocks =
    status_data lba (alike blocks lba (looked_at capacity lba)) (provisioning (blocks lba))
