-- The parameter list of FORMAT UNIT, SBC-3 §5.3.2.
use Rattle.std.specs.Prelude.{ℕ, Bool, List, [], ◌∷◌, ◌++◌, slice_range, Err, if◌then◌else◌}
use Rattle.std.specs.Int.{w16, w32, from_be_bytes}
use Rattle.sense.specs.Conditions.{invalid_field_in_parameter_list}
use Rattle.cdb.specs.Fields.{byte, bits, bit, is_set}
use Rattle.cdb.specs.Decoding.{any}
use Rattle.cdb.specs.declared.wide_commands.FormatList.{FormatList}
use Rattle.cdb.specs.declared.wide_commands.FormatList.TheVariants.{NoList, ShortHeader, LongHeader}
use Rattle.command_model.specs.Data.{Answer, done}

-- options that a header asks for: PROTECTION FIELD USAGE; anything of byte 1 but FOV (bit 7) and IMMED (bit 1)
abbrev pub options : List ℕ → List Bool
options bytes = is_set (bits 0 2 0 bytes) ∷ is_set (bits 1 6 2 bytes) ∷ bit 1 0 bytes ∷ []

-- why a header is refused: an option, a list of defects; and in the long one also a protection interval
abbrev pub header_causes : FormatList → List ℕ → List Bool
header_causes NoList bytes = []
header_causes ShortHeader bytes = options bytes ++ is_set (from_be_bytes w16 (slice_range bytes 2 4)) ∷ []
header_causes LongHeader bytes =
    options bytes ++ is_set (byte 3 bytes) ∷ is_set (from_be_bytes w32 (slice_range bytes 4 8)) ∷ []

abbrev pub format_answer : FormatList → List ℕ → Answer
format_answer list bytes = if any (header_causes list bytes) then Err invalid_field_in_parameter_list else done
