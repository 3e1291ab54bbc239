-- What stands in the positions of a line.
use Rattle.std.specs.Prelude.{ℕ, ◌≡◌, ◌≤◌, ◌<◌, ◌+◌, ◌*◌, ◌-◌, ◌^◌, ◌==◌, min, Bool, true, false, ◌⊎◌, Some, None, codes, List, [], ◌∷◌, length}
use Rattle.std.specs.List.{after_first, before_first, list_all, position_or_len}
use Rattle.std.specs.Char.{is_ascii_alphanumeric}
use Rattle.std.specs.Str.{all_ascii_digits}
use Rattle.std.specs.Str.Parse.{digits_value}
use Rattle.scsi_codec.specs.declared.lun.Address.{Address}
use Rattle.script_syntax.specs.declared.ring_place.RingPlace.{RingPlace}
use Rattle.script_syntax.specs.declared.values.Item.{Item}

-- a decimal number below a bound, in digits alone: zeros may lead, a sign may not
pub record IsNumber (bound : ℕ) (word : List ℕ) (number : ℕ) : Type 0 where
  pub digits : all_ascii_digits word ≡ true
  pub some : 1 ≤ length word
  pub value : number ≡ digits_value 10 word
  pub below : number < bound

-- how many blocks a unit may be given: 1 to 2^40
pub record IsCapacity (word : List ℕ) (blocks : ℕ) : Type 0 where
  pub number : IsNumber (2 ^ 40 + 1) word blocks
  pub some : 1 ≤ blocks

-- the number of a thing in an order, from 1 on
pub record IsOrdinal (word : List ℕ) (number : ℕ) : Type 0 where
  pub digits : IsNumber (2 ^ 64) word number
  pub some : 1 ≤ number

-- a unit, as two words name it
pub record IsUnit (target lun : List ℕ) (unit : Address) : Type 0 where
  pub target_number : IsNumber 256 target unit.target
  pub lun_number : IsNumber 16384 lun unit.lun

-- `:`
abbrev pub is_colon : ℕ → Bool
is_colon byte = byte == 58

-- a unit as one word, whose first colon stands between the two
pub record IsUnitPair (word : List ℕ) (unit : Address) : Type 0 where
  pub colon : position_or_len is_colon word < length word
  pub sides : IsUnit (before_first is_colon word) (after_first is_colon word) unit

-- a position in a ring without a wrap counter, which has no colon
pub record HasNoWrap (word : List ℕ) (position : RingPlace) : Type 0 where
  pub no_colon : length word ≤ position_or_len is_colon word
  pub index : IsNumber 65536 word position.index
  pub wrap : position.wrap ≡ None

-- a wrap counter: 0 or 1
abbrev pub IsWrapCounter : List ℕ → Bool → Type 0
IsWrapCounter word wrap = ((wrap ≡ false) × (word ≡ codes "0")) ⊎ ((wrap ≡ true) × (word ≡ codes "1"))

-- a slot and the wrap counter there, as two words
pub record IsSlot (slot counter : List ℕ) (position : RingPlace) : Type 0 where
  pub index : IsNumber 65536 slot position.index
  pub wrap : (wrap : Bool) × (position.wrap ≡ Some wrap) × IsWrapCounter counter wrap

-- a slot as one word, in which the wrap counter stands behind the first colon
pub record HasWrap (word : List ℕ) (position : RingPlace) : Type 0 where
  pub colon : position_or_len is_colon word < length word
  pub sides : IsSlot (before_first is_colon word) (after_first is_colon word) position

-- a position in a ring, as one word
abbrev pub IsRingPlace : List ℕ → RingPlace → Type 0
IsRingPlace word position = HasNoWrap word position ⊎ HasWrap word position

-- a name: 1 to 16 letters or digits
pub record IsName (word : List ℕ) : Type 0 where
  pub some : 1 ≤ length word
  pub few : length word ≤ 16
  pub letters : list_all is_ascii_alphanumeric word ≡ true

-- how many bytes items are in all
abbrev pub total_of : List Item → ℕ
total_of [] = 0
total_of (item ∷ items) = length item.bytes.items * item.repeat + total_of items

-- the same, as far as 64 bits say it
abbrev pub length_of : List Item → ℕ
length_of items = min (total_of items) (2 ^ 64 - 1)
