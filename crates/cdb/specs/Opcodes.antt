-- The opcodes, SPC-4 §4.3: byte 0 of a CDB, whose upper three bits, the group code, give the CDB's
-- length. The last byte of that length is the control byte.
use Rattle.std.specs.Prelude.{ℕ, ◌-◌, ◌/◌, ◌==◌, Bool, List, [], ◌∷◌, ◌++◌, if◌then◌else◌, nat_le}
use Rattle.std.specs.List.{list_any}
use Rattle.cdb.specs.declared.profile.Profile.{Profile}
use Rattle.cdb.specs.declared.profile.Profile.TheVariants.{Narrow, Wide}

-- the opcodes of the narrow profile
abbrev pub narrow_opcodes : List ℕ
narrow_opcodes =
    0x00 ∷ 0x03 ∷ 0x08 ∷ 0x0a ∷ 0x12
    ∷ 0x25 ∷ 0x28 ∷ 0x2a ∷ 0x35 ∷ 0x41 ∷ 0x42
    ∷ 0x88 ∷ 0x89 ∷ 0x8a ∷ 0x91 ∷ 0x93 ∷ 0x9e
    ∷ 0xa0 ∷ 0xa8 ∷ 0xaa ∷ []

-- those that the wide profile has rows of its own for
abbrev pub wide_opcodes : List ℕ
wide_opcodes =
    0x12 ∷ 0x03 ∷ 0x04 ∷ 0x15 ∷ 0x1a ∷ 0x1b ∷ 0x1d ∷ 0x1e
    ∷ 0x2e ∷ 0x2f ∷ 0x34 ∷ 0x37 ∷ 0x55 ∷ 0x5a
    ∷ 0x8b ∷ 0x8e ∷ 0x8f ∷ 0x90 ∷ 0x93 ∷ 0x9e
    ∷ 0xa3 ∷ 0xae ∷ 0xaf ∷ 0xb7 ∷ []

-- those of a profile
abbrev pub opcodes : Profile → List ℕ
opcodes Narrow = narrow_opcodes
opcodes Wide = wide_opcodes ++ narrow_opcodes

abbrev pub is_profiled : Profile → ℕ → Bool
is_profiled profile opcode = list_any (λ known. known == opcode) (opcodes profile)

-- the bytes of a CDB of this group: 6 in group 0, 10 in groups 1 and 2, 16 in group 4 and 12 in
-- group 5 (no profile has anything of the others)
abbrev pub length_of_group : ℕ → ℕ
length_of_group group =
    if group == 0 then 6 else (if nat_le group 2 then 10 else (if group == 4 then 16 else 12))

-- the index of the control byte
abbrev pub control_of : ℕ → ℕ
control_of opcode = length_of_group (opcode / 32) - 1
