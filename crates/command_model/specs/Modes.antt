-- The mode parameters of a unit, SPC-4 §7.5 and SBC-3 §6.5. None can be changed or saved.
use Rattle.std.specs.Prelude.{ℕ, ◌+◌, Bool, true, false, List, [], ◌∷◌, ◌++◌, length, min, replicate, take, Ok, Err, if◌then◌else◌}
use Rattle.std.specs.List.{flat_map}
use Rattle.std.specs.Int.{w16, w32, w64, to_be_bytes}
use Rattle.sense.specs.Conditions.{saving_parameters_not_supported}
use Rattle.sense.specs.declared.SenseFormat.{SenseFormat}
use Rattle.sense.specs.declared.SenseFormat.TheVariants.{Fixed, Descriptor}
use Rattle.cdb.specs.declared.wide_commands.ModeRequest.{ModeRequest}
use Rattle.cdb.specs.declared.wide_commands.ModeForm.{ModeForm}
use Rattle.cdb.specs.declared.wide_commands.ModeForm.TheVariants.{Six, Ten}
use Rattle.cdb.specs.declared.wide_commands.ModeDescriptor.{ModeDescriptor}
use Rattle.cdb.specs.declared.wide_commands.ModeDescriptor.TheVariants.{Absent, Short, Long}
use Rattle.cdb.specs.declared.wide_commands.ModePages.{ModePages}
use Rattle.cdb.specs.declared.wide_commands.ModePages.TheVariants.{ErrorRecovery, Caching, Control, InformationalExceptions, All}
use Rattle.cdb.specs.declared.wide_commands.ModeValues.{ModeValues}
use Rattle.cdb.specs.declared.wide_commands.ModeValues.TheVariants.{Changeable, Saved}
use Rattle.command_model.specs.Data.{Answer}

-- a page: its code, and the bytes that follow its page length
-- Read-Write Error Recovery, SBC-3 §6.5: nothing is recovered
abbrev pub error_recovery : ℕ × List ℕ
error_recovery = (0x01, replicate 10 0x00)

-- WCE, bit 2 of byte 2 of Caching: there is a volatile write cache
abbrev pub wce : Bool → ℕ
wce true = 0x04
wce false = 0x00

-- Caching, SBC-3 §6.5: RCD is 0; without a write cache a block is kept when its WRITE ends
abbrev pub caching : Bool → ℕ × List ℕ
caching write_cache = (0x08, wce write_cache ∷ replicate 17 0x00)

-- D_SENSE, bit 2 of byte 2 of Control
abbrev pub d_sense : SenseFormat → ℕ
d_sense Fixed = 0x00
d_sense Descriptor = 0x04

-- Control, SPC-4 §7.5.8: one task set, the format of sense data, and unrestricted reordering of SIMPLE commands in byte 3
abbrev pub control : SenseFormat → ℕ × List ℕ
control format = (0x0a, d_sense format ∷ 0x10 ∷ replicate 8 0x00)

-- Informational Exceptions Control, SPC-4 §7.5.11: DEXCPT; none is ever reported
abbrev pub exceptions : ℕ × List ℕ
exceptions = (0x1c, 0x08 ∷ replicate 9 0x00)

-- the pages of a unit that sends sense data in a format, with a volatile write cache or without
abbrev pub pages_of : SenseFormat → Bool → ModePages → List (ℕ × List ℕ)
pages_of format write_cache ErrorRecovery = error_recovery ∷ []
pages_of format write_cache Caching = caching write_cache ∷ []
pages_of format write_cache Control = control format ∷ []
pages_of format write_cache InformationalExceptions = exceptions ∷ []
pages_of format write_cache All = error_recovery ∷ caching write_cache ∷ control format ∷ exceptions ∷ []

-- a page as it is returned, SPC-4 §7.5.6: PS is 0; its bytes, or a mask of those that MODE SELECT can change
abbrev pub page_bytes : Bool → ℕ × List ℕ → List ℕ
page_bytes is_mask page =
    page.0 ∷ length page.1 ∷ (if is_mask then replicate (length page.1) 0x00 else page.1)

unfoldable pub page_list : SenseFormat → Bool → Bool → ModePages → List ℕ
page_list format write_cache is_mask pages = flat_map (page_bytes is_mask) (pages_of format write_cache pages)

-- what the field PC asks for, SPC-4 §6.13: a mask; what was saved
abbrev pub is_mask : ModeValues → Bool
is_mask Changeable = true
is_mask _ = false

abbrev pub is_saved : ModeValues → Bool
is_saved Saved = true
is_saved _ = false

-- the block descriptor, SBC-3 §6.5.2: the number of blocks and the block length; ffffffffh where the number doesn't fit
unfoldable pub block_descriptor : ModeDescriptor → ℕ → List ℕ
block_descriptor Absent blocks = []
block_descriptor Short blocks = to_be_bytes w32 (min blocks 0xffff_ffff) ++ to_be_bytes w32 512
block_descriptor Long blocks = to_be_bytes w64 blocks ++ replicate 4 0x00 ++ to_be_bytes w32 512

abbrev pub descriptor_length : ModeDescriptor → ℕ
descriptor_length Absent = 0
descriptor_length Short = 8
descriptor_length Long = 16

-- LONGLBA
abbrev pub long_lba : ModeDescriptor → ℕ
long_lba Long = 0x01
long_lba _ = 0x00

-- WP, bit 7 of the device-specific parameter of a block device, SBC-3 §6.5.1: the medium may not be changed
abbrev pub wp : Bool → ℕ
wp true = 0x80
wp false = 0x00

-- DPOFUA, bit 4 of it: DPO and FUA are supported
abbrev pub dpofua : ℕ
dpofua = 0x10

-- the device-specific parameter of a unit, which is read-only or not
abbrev pub device_specific : Bool → ℕ
device_specific read_only = wp read_only + dpofua

-- the header before pages of so many bytes, SPC-4 §7.5.5: the mode data length, the medium type, the device-specific
-- parameter, LONGLBA, the block descriptor length
unfoldable pub mode_header : Bool → ModeForm → ModeDescriptor → ℕ → List ℕ
mode_header read_only Six descriptor pages =
    (3 + descriptor_length descriptor + pages) ∷ 0x00 ∷ device_specific read_only ∷ descriptor_length descriptor ∷ []
mode_header read_only Ten descriptor pages =
    to_be_bytes w16 (6 + descriptor_length descriptor + pages)
    ++ (0x00 ∷ device_specific read_only ∷ long_lba descriptor ∷ 0x00 ∷ [])
    ++ to_be_bytes w16 (descriptor_length descriptor)

-- the mode parameter list of a unit of so many blocks; a page has as many bytes whatever values of it are asked for
abbrev pub mode_data : SenseFormat → Bool → Bool → ModeRequest → ℕ → List ℕ
mode_data format write_cache read_only request blocks =
    mode_header read_only request.form request.descriptor (length (page_list format write_cache false request.pages))
    ++ block_descriptor request.descriptor blocks
    ++ page_list format write_cache (is_mask request.values) request.pages

-- MODE SENSE, SPC-4 §6.13
abbrev pub mode_answer : SenseFormat → Bool → Bool → ModeRequest → ℕ → Answer
mode_answer format write_cache read_only request blocks =
    if is_saved request.values then Err saving_parameters_not_supported
    else Ok (take request.allocation (mode_data format write_cache read_only request blocks))
