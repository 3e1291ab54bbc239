-- The data of INQUIRY: the standard data, and the pages of vital product data, SPC-4
-- §7.8 and SBC-3 §6.6.
use Rattle.std.specs.Prelude.{ℕ, ◌+◌, ◌/◌, ◌%◌, ◌^◌, ◌==◌, Bool, true, false, List, [], ◌∷◌, ◌++◌, length, map, replicate, take, codes, Option, Some, None, if◌then◌else◌}
use Rattle.std.specs.Int.{w16, to_be_bytes}
use Rattle.sense.specs.declared.SenseFormat.{SenseFormat}
use Rattle.sense.specs.declared.SenseFormat.TheVariants.{Fixed, Descriptor}
use Rattle.cdb.specs.declared.profile.Profile.{Profile}
use Rattle.cdb.specs.declared.profile.Profile.TheVariants.{Narrow, Wide}
use Rattle.cdb.specs.declared.commands.InquiryData.{InquiryData}
use Rattle.cdb.specs.declared.commands.InquiryData.TheVariants.{Standard, SupportedPages, SerialNumber, DeviceIdentification, ExtendedInquiry, BlockLimits, BlockDeviceCharacteristics, LogicalBlockProvisioning}
use Rattle.command_model.specs.StandardData.{standard_data, wide_standard_data}
use Rattle.command_model.specs.declared.identity.Identity.{Identity}

-- byte 0 of the standard data, the peripheral qualifier and device type: a block device that is there
-- (SPC-4 §6.6.2)
abbrev pub block_device : ℕ
block_device = 0x00

-- the decimal digit of a number at a position, as text; position 0 is the lowest
abbrev pub digit : ℕ → ℕ → ℕ
digit number position = 0x30 + number / 10 ^ position % 10

-- own: the serial number of a unit that is given none: the target in 3 digits, the LUN in 5
unfoldable pub serial : ℕ → ℕ → List ℕ
serial target lun =
    codes "VSCSI" ++ map (digit target) (2 ∷ 1 ∷ 0 ∷ []) ++ map (digit lun) (4 ∷ 3 ∷ 2 ∷ 1 ∷ 0 ∷ [])

-- the serial number that a unit tells
abbrev pub serial_of : Identity → ℕ → ℕ → List ℕ
serial_of i target lun = if i.serial_len == 0 then serial target lun else take i.serial_len i.serial

-- the standard data of a profile
abbrev pub standard_of : Profile → Identity → List ℕ
standard_of Narrow i = standard_data block_device
standard_of Wide i = wide_standard_data i.vendor i.product i.revision

-- page 00h, Supported VPD Pages, SPC-4 §7.8.14
unfoldable pub supported_pages : Profile → List ℕ
supported_pages Narrow = 0x00 ∷ 0x00 ∷ 0x00 ∷ 0x05 ∷ 0x00 ∷ 0x80 ∷ 0x83 ∷ 0xb0 ∷ 0xb2 ∷ []
supported_pages Wide = 0x00 ∷ 0x00 ∷ 0x00 ∷ 0x07 ∷ 0x00 ∷ 0x80 ∷ 0x83 ∷ 0x86 ∷ 0xb0 ∷ 0xb1 ∷ 0xb2 ∷ []

-- page 80h, Unit Serial Number, SPC-4 §7.8.15
unfoldable pub serial_page : List ℕ → List ℕ
serial_page number = (0x00 ∷ 0x80 ∷ 0x00 ∷ length number ∷ []) ++ number

-- a designator in ASCII based on the T10 vendor identification, SPC-4 §7.8.6.4: the vendor, and the serial number behind
abbrev pub t10_designator : List ℕ → List ℕ → List ℕ
t10_designator vendor number = (0x02 ∷ 0x01 ∷ 0x00 ∷ (8 + length number) ∷ []) ++ vendor ++ number

-- a binary designator of 8 bytes that names the unit by NAA, SPC-4 §7.8.6.6, if there is one
abbrev pub naa_designator : Option (List ℕ) → List ℕ
naa_designator None = []
naa_designator (Some naa) = (0x01 ∷ 0x03 ∷ 0x00 ∷ 0x08 ∷ []) ++ naa

-- page 83h, Device Identification, SPC-4 §7.8.6
unfoldable pub identification_page : List ℕ → List ℕ → Option (List ℕ) → List ℕ
identification_page vendor number naa =
    (0x00 ∷ 0x83 ∷ 0x00 ∷ length (t10_designator vendor number ++ naa_designator naa) ∷ [])
    ++ t10_designator vendor number ++ naa_designator naa

-- the most bytes of sense data beside a status: 18 in the fixed format, SPC-4 §4.5.3; in the descriptor format 8, and 12 of
-- an information descriptor, §4.5.2
abbrev pub most_sense : SenseFormat → ℕ
most_sense Fixed = 18
most_sense Descriptor = 20

-- V_SUP, bit 0 of byte 6 of page 86h: there is a volatile cache
abbrev pub v_sup : Bool → ℕ
v_sup true = 0x01
v_sup false = 0x00

-- page 86h, Extended INQUIRY Data, SPC-4 §7.8.7, 64 bytes: byte 5 with HEADSUP, ORDSUP and SIMPSUP; byte 6, V_SUP; byte 13,
-- the most bytes of sense data
unfoldable pub extended_page : SenseFormat → Bool → List ℕ
extended_page format write_cache =
    (0x00 ∷ 0x86 ∷ 0x00 ∷ 0x3c ∷ 0x00 ∷ 0x07 ∷ v_sup write_cache ∷ [])
    ++ replicate 6 0x00
    ++ (most_sense format ∷ [])
    ++ replicate 50 0x00

-- page B0h, Block Limits, SBC-3 §6.6.3, 64 bytes
unfoldable pub limits_page : List ℕ
limits_page =
    (0x00 ∷ 0xb0 ∷ 0x00 ∷ 0x3c ∷ [])
    -- bytes 4 and 5: WSNZ; the most blocks of a COMPARE AND WRITE
    ++ (0x01 ∷ 0x40 ∷ 0x00 ∷ 0x00 ∷ [])
    -- bytes 8 and 12: the most blocks of a transfer, and the best
    ++ (0x00 ∷ 0x00 ∷ 0x08 ∷ 0x00 ∷ [])
    ++ (0x00 ∷ 0x00 ∷ 0x08 ∷ 0x00 ∷ [])
    ++ (0x00 ∷ 0x00 ∷ 0x00 ∷ 0x00 ∷ [])
    -- bytes 20 and 24: the most blocks and descriptors of an UNMAP
    ++ (0x00 ∷ 0x01 ∷ 0x00 ∷ 0x00 ∷ [])
    ++ (0x00 ∷ 0x00 ∷ 0x00 ∷ 0x10 ∷ [])
    -- byte 28: the granularity of an UNMAP
    ++ (0x00 ∷ 0x00 ∷ 0x00 ∷ 0x01 ∷ [])
    ++ (0x00 ∷ 0x00 ∷ 0x00 ∷ 0x00 ∷ [])
    -- byte 36: the most blocks of a WRITE SAME
    ++ (0x00 ∷ 0x00 ∷ 0x00 ∷ 0x00 ∷ 0x00 ∷ 0x01 ∷ 0x00 ∷ 0x00 ∷ [])
    ++ replicate 20 0x00

-- page B1h, Block Device Characteristics, SBC-3 §6.6.2, 64 bytes: bytes 4 and 5, the medium rotation rate
unfoldable pub characteristics_page : ℕ → List ℕ
characteristics_page rate =
    (0x00 ∷ 0xb1 ∷ 0x00 ∷ 0x3c ∷ []) ++ to_be_bytes w16 rate ++ replicate 58 0x00

-- page B2h, Logical Block Provisioning, SBC-3 §6.6.4: LBPU, LBPWS, LBPWS10, LBPRZ; thin
unfoldable pub provisioning_page : List ℕ
provisioning_page = 0x00 ∷ 0xb2 ∷ 0x00 ∷ 0x04 ∷ 0x00 ∷ 0xe4 ∷ 0x02 ∷ 0x00 ∷ []

-- the data that is asked for, of the unit of this profile, target and LUN, which tells this identity
abbrev pub inquiry_data : Profile → Identity → InquiryData → ℕ → ℕ → List ℕ
inquiry_data profile i Standard target lun = standard_of profile i
inquiry_data profile i SupportedPages target lun = supported_pages profile
inquiry_data profile i SerialNumber target lun = serial_page (serial_of i target lun)
inquiry_data profile i DeviceIdentification target lun =
    identification_page i.vendor (serial_of i target lun) i.naa
inquiry_data profile i ExtendedInquiry target lun = extended_page i.sense_format i.write_cache
inquiry_data profile i BlockLimits target lun = limits_page
inquiry_data profile i BlockDeviceCharacteristics target lun = characteristics_page i.rotation_rate
inquiry_data profile i LogicalBlockProvisioning target lun = provisioning_page
