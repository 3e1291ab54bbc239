-- The parts of a chain, and the bytes that stand in them (VIRTIO 1.2, 2.7.4 and 2.8.5).
use Rattle.std.specs.Prelude.{ℕ, ◌+◌, ◌≤◌, ◌^◌, ◌||◌, nat_le, eqb, Bool, cond, List, [], sum_by}
use Rattle.std.specs.List.{flat_map, AllPass}
use Rattle.guest_mem.specs.Memory.{bytes_at}
use Rattle.ring_core.specs.declared.descriptor.Part.{Part}

abbrev pub readable_total : List Part → ℕ
readable_total parts = sum_by (λ p. cond p.writable 0 p.len) parts

abbrev pub writable_total : List Part → ℕ
writable_total parts = sum_by (λ p. cond p.writable p.len 0) parts

-- a part lies in a memory of this size, or is empty
abbrev pub inside : ℕ → Part → Bool
inside size p = eqb p.len 0 || nat_le (p.addr + p.len) size

-- the parts lie in a memory of this size, and have at most 2^32 bytes
pub record PartsFit (size : ℕ) (parts : List Part) : Type 0 where
  pub inside : AllPass (inside size) parts
  pub total : readable_total parts + writable_total parts ≤ 2 ^ 32

-- the readable bytes of a part
abbrev pub readable_of : List ℕ → Part → List ℕ
readable_of m p = cond p.writable [] (bytes_at m p.addr p.len)

-- the readable bytes of a chain, in order
abbrev pub readable_bytes : List ℕ → List Part → List ℕ
readable_bytes m parts = flat_map (readable_of m) parts

-- how many of them a fetch reads: a request's 51 and 2,048 blocks of 512
abbrev pub first_bytes : ℕ
first_bytes = 1048627
