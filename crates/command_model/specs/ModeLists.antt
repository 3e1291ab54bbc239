-- The parameter list of MODE SELECT, SPC-4 §6.11, §7.5.5. Nothing can be changed, so a list is taken where all that it
-- sets is as it is.
use Rattle.std.specs.Prelude.{ℕ, zero, suc, ◌+◌, ◌%◌, ◌==◌, Bool, true, false, not, ◌&&◌, ◌||◌, nat_le, nat_lt, List, [], length, take, drop, slice_index, slice_range, Option, Some, None, Ok, Err, if◌then◌else◌, is_none}
use Rattle.std.specs.List.{list_any}
use Rattle.std.specs.Int.{w16, w32, w64, from_be_bytes}
use Rattle.sense.specs.Conditions.{parameter_list_length_error, invalid_field_in_parameter_list}
use Rattle.sense.specs.declared.SenseFormat.{SenseFormat}
use Rattle.sense.specs.declared.SenseFormat.TheVariants.{Fixed}
use Rattle.cdb.specs.declared.wide_commands.ModeForm.{ModeForm}
use Rattle.cdb.specs.declared.wide_commands.ModeForm.TheVariants.{Six, Ten}
use Rattle.cdb.specs.declared.wide_commands.ModeDescriptor.{ModeDescriptor}
use Rattle.cdb.specs.declared.wide_commands.ModeDescriptor.TheVariants.{Absent, Short, Long}
use Rattle.cdb.specs.declared.wide_commands.ModePages.TheVariants.{ErrorRecovery, Caching, Control, InformationalExceptions, All}
use Rattle.command_model.specs.Data.{Answer}
use Rattle.command_model.specs.Comparing.{first_unequal}
use Rattle.command_model.specs.Modes.{descriptor_length, page_list, pages_of}

abbrev pub is_same : List ℕ → List ℕ → Bool
is_same left right = (length left == length right) && is_none (first_unequal left right)

-- whether a list begins with these bytes
abbrev pub begins_with : List ℕ → List ℕ → Bool
begins_with bytes front = nat_le (length front) (length bytes) && is_same (take (length front) bytes) front

-- whether they begin with a page as MODE SENSE gives it
unfoldable pub begins_with_page : SenseFormat → Bool → List ℕ → Bool
begins_with_page format write_cache bytes =
    begins_with bytes (page_list format write_cache false ErrorRecovery) || (begins_with bytes (page_list format write_cache false Caching)
    || (begins_with bytes (page_list format write_cache false Control)
    || begins_with bytes (page_list format write_cache false InformationalExceptions)))

-- the codes of the pages that there are, whatever the format and the cache
abbrev pub is_page : ℕ → Bool
is_page code = list_any (λ page. page.0 == code) (pages_of Fixed false All)

-- what stands behind the first page of some bytes: a page that ends before its page length says is cut, SPC-4 §6.11
abbrev pub behind_page : SenseFormat → Bool → List ℕ → Answer
behind_page format write_cache bytes =
    if nat_lt (length bytes) 2 then Err parameter_list_length_error
    else (if not (is_page (slice_index bytes 0)) then Err invalid_field_in_parameter_list
    else (if nat_lt (length bytes) (2 + slice_index bytes 1) then Err parameter_list_length_error
    else (if begins_with_page format write_cache bytes then Ok (drop (2 + slice_index bytes 1) bytes)
    else Err invalid_field_in_parameter_list)))

-- the pages behind one that was taken
abbrev pub in_turn : Answer → (List ℕ → Answer) → Answer
in_turn (Ok rest) later = later rest
in_turn (Err s) later = Err s

-- what at most so many pages are answered, in any order: the first that is refused says why
abbrev pub pages_answer : SenseFormat → Bool → ℕ → List ℕ → Answer
pages_answer format write_cache zero bytes = Ok []
pages_answer format write_cache (suc more) bytes =
    if length bytes == 0 then Ok [] else in_turn (behind_page format write_cache bytes) (λ rest. pages_answer format write_cache more rest)

abbrev pub header_length : ModeForm → ℕ
header_length Six = 4
header_length Ten = 8

-- the fields of the header: medium type, LONGLBA and block descriptor length
abbrev pub medium_type : ModeForm → List ℕ → ℕ
medium_type Six list = slice_index list 1
medium_type Ten list = slice_index list 2

abbrev pub is_long : ModeForm → List ℕ → Bool
is_long Six list = false
is_long Ten list = slice_index list 4 % 2 == 1

abbrev pub descriptor_bytes : ModeForm → List ℕ → ℕ
descriptor_bytes Six list = slice_index list 3
descriptor_bytes Ten list = from_be_bytes w16 (slice_range list 6 8)

-- the block descriptor that a header announces, if there is such a one
abbrev pub descriptor_of : Bool → ℕ → Option ModeDescriptor
descriptor_of long bytes =
    if bytes == 0 then Some Absent
    else (if long then (if bytes == 16 then Some Long else None) else (if bytes == 8 then Some Short else None))

-- whether the block length is 512, and what is reserved before it is 0. The number of blocks is ignored, since a
-- capacity isn't changed by MODE SELECT, SBC-3 §6.5.2
abbrev pub has_block_length : ModeDescriptor → List ℕ → Bool
has_block_length Absent bytes = true
has_block_length Short bytes = from_be_bytes w32 (slice_range bytes 4 8) == 512
has_block_length Long bytes = from_be_bytes w64 (slice_range bytes 8 16) == 512

-- what follows the header; each page has two bytes at least, so there are no more of them than bytes
abbrev pub described_answer : SenseFormat → Bool → Option ModeDescriptor → List ℕ → Answer
described_answer format write_cache None bytes = Err invalid_field_in_parameter_list
described_answer format write_cache (Some descriptor) bytes =
    if nat_lt (length bytes) (descriptor_length descriptor) then Err parameter_list_length_error
    else (if has_block_length descriptor bytes
    then pages_answer format write_cache (length bytes) (drop (descriptor_length descriptor) bytes)
    else Err invalid_field_in_parameter_list)

-- MODE SELECT: no list is no error; one that ends within its header, its block descriptor or a page is one
abbrev pub select_answer : SenseFormat → Bool → ModeForm → List ℕ → Answer
select_answer format write_cache form list =
    if length list == 0 then Ok []
    else (if nat_lt (length list) (header_length form) then Err parameter_list_length_error
    else (if medium_type form list == 0
    then described_answer format write_cache (descriptor_of (is_long form list) (descriptor_bytes form list)) (drop (header_length form) list)
    else Err invalid_field_in_parameter_list))
