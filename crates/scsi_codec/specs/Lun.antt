-- The eight bytes that name a logical unit (VIRTIO 1.2 §5.6.6.1): 01, the target, the LUN as a
-- single level LUN structure (SAM-5 §4.7), four zeros.
use Rattle.std.specs.Prelude.{ℕ, ◌≡◌, ◌<◌, ◌≤◌, ◌+◌, ◌-◌, ◌*◌, ◌/◌, ◌%◌, ◌==◌, ◌&&◌, ◌⊎◌, nat_lt, nat_le, Bool, if◌then◌else◌, List, [], ◌∷◌, length, slice_index, Option, Some, None}
use Rattle.scsi_codec.specs.declared.lun.Address.{Address}

-- `00 nn`, by the peripheral device addressing method
abbrev pub first_form : Address → List ℕ
first_form a = 0x01 ∷ a.target ∷ 0x00 ∷ a.lun ∷ 0 ∷ 0 ∷ 0 ∷ 0 ∷ []

-- `40 + hi, lo`, by the flat space addressing method
abbrev pub second_form : Address → List ℕ
second_form a = 0x01 ∷ a.target ∷ (0x40 + a.lun / 256) ∷ (a.lun % 256) ∷ 0 ∷ 0 ∷ 0 ∷ 0 ∷ []

-- these bytes name this unit, in one form or the other
abbrev pub IsAddress : List ℕ → Address → Type 0
IsAddress bytes a =
    ((a.lun < 256) × (bytes ≡ first_form a)) ⊎ ((a.lun < 16384) × (bytes ≡ second_form a))

-- what bytes read as: the unit that they name, or none where they name no unit
abbrev pub ReadsAddress : List ℕ → Option Address → Type 0
ReadsAddress bytes (Some a) = IsAddress bytes a
ReadsAddress bytes None = (a : Address) → ¬ IsAddress bytes a

-- 01, and the four zeros
abbrev pub is_single_level : List ℕ → Bool
is_single_level bytes =
    (slice_index bytes 0 == 0x01)
    && (slice_index bytes 4 == 0) && (slice_index bytes 5 == 0) && (slice_index bytes 6 == 0)
    && (slice_index bytes 7 == 0)

-- the unit that eight bytes name, by the method that byte 2 gives, if any
abbrev pub address_in : List ℕ → Option Address
address_in bytes =
    if is_single_level bytes then
    (if slice_index bytes 2 == 0x00 then Some (record { target = slice_index bytes 1; lun = slice_index bytes 3 })
    else (if nat_le 0x40 (slice_index bytes 2) && nat_le (slice_index bytes 2) 0x7f
    then Some (record { target = slice_index bytes 1; lun = (slice_index bytes 2 - 0x40) * 256 + slice_index bytes 3 })
    else None))
    else None

-- the form in which an address is written
abbrev pub written_address : Address → List ℕ
written_address a = if nat_lt a.lun 256 then first_form a else second_form a

-- own: an address as one number, the target above the LUN, and the address that a number is
abbrev pub number_of : Address → ℕ
number_of a = a.target * 65536 + a.lun

abbrev pub address_at : ℕ → Address
address_at number = record { target = number / 65536; lun = number % 65536 }

-- which byte stands where in bytes that name a unit
pub record HasReadableForm (bytes : List ℕ) : Type 0 where
  pub eight : length bytes ≡ 8
  pub single_level : slice_index bytes 0 ≡ 0x01
  pub method :
      (slice_index bytes 2 ≡ 0x00)
      ⊎ ((0x40 ≤ slice_index bytes 2) × (slice_index bytes 2 ≤ 0x7f))
  pub four_zeros : (k : ℕ) → 4 ≤ k → k < 8 → slice_index bytes k ≡ 0

-- a list of bytes
abbrev pub AreBytes : List ℕ → Type 0
AreBytes bytes = (k : ℕ) → slice_index bytes k < 256
