-- What bytes of sense data say, as one reads them that takes either format, SPC-4 §4.5.
use Rattle.std.specs.Prelude.{ℕ, zero, suc, ◌+◌, ◌/◌, ◌%◌, ◌==◌, ◌&&◌, Bool, List, drop, slice_index, slice_range, length, nat_lt, Option, None, Some, if◌then◌else◌}
use Rattle.std.specs.Int.{w32, w64, from_be_bytes}
use Rattle.sense.specs.declared.Sense.{Sense}
use Rattle.sense.specs.declared.SenseFormat.TheVariants.{Fixed, Descriptor}

-- a sense data descriptor in which the information field is valid, §4.5.2.2: of descriptor type 00h, with VALID
abbrev pub is_information : List ℕ → Bool
is_information bytes = (slice_index bytes 0 == 0x00) && (slice_index bytes 2 / 128 == 1)

-- the information of the first such among at most so many sense data descriptors: each says by its second byte how many
-- bytes follow it, §4.5.2.1
abbrev pub information_in : ℕ → List ℕ → Option ℕ
information_in zero bytes = None
information_in (suc more) bytes =
    if nat_lt (length bytes) 2 then None
    else (if is_information bytes then Some (from_be_bytes w64 (slice_range bytes 4 12))
    else information_in more (drop (2 + slice_index bytes 1) bytes))

-- the descriptor format, §4.5.2: the sense data descriptors begin at byte 8, and byte 7 says how many bytes they have
abbrev pub read_descriptor : List ℕ → Sense
read_descriptor bytes =
    record {
      key = slice_index bytes 1 % 16;
      asc = slice_index bytes 2;
      ascq = slice_index bytes 3;
      format = Descriptor;
      information = information_in (slice_index bytes 7) (slice_range bytes 8 (8 + slice_index bytes 7));
    }

-- the fixed format, §4.5.3: VALID in bit 7 of byte 0 says that the information field holds a value
abbrev pub read_fixed : List ℕ → Sense
read_fixed bytes =
    record {
      key = slice_index bytes 2 % 16;
      asc = slice_index bytes 12;
      ascq = slice_index bytes 13;
      format = Fixed;
      information = if slice_index bytes 0 / 128 == 1 then Some (from_be_bytes w32 (slice_range bytes 3 7)) else None;
    }

-- by the response code of current information: 70h of the fixed format, 72h of the descriptor format
abbrev pub read_sense : List ℕ → Option Sense
read_sense bytes =
    if slice_index bytes 0 % 128 == 0x70 then Some (read_fixed bytes)
    else (if slice_index bytes 0 % 128 == 0x72 then Some (read_descriptor bytes) else None)
