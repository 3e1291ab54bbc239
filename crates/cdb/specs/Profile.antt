-- The commands of a profile, as a table with a row for each opcode: SPC-4, SBC-3 and, for the two
-- commands of 6 bytes that SBC-3 leaves out, SBC-2.
use Rattle.std.specs.Prelude.{ℕ, ◌+◌, ◌*◌, ◌^◌, ◌==◌, Bool, ◌&&◌, not, List, [], ◌∷◌, if◌then◌else◌, Option, find, unwrap_or, option_map, is_none}
use Rattle.cdb.specs.Fields.{byte, bits, bit, number, is_set, is_over}
use Rattle.sense.specs.declared.SenseFormat.{SenseFormat}
use Rattle.sense.specs.declared.SenseFormat.TheVariants as format
use Rattle.cdb.specs.declared.profile.Profile.{Profile}
use Rattle.cdb.specs.declared.profile.Profile.TheVariants.{Narrow, Wide}
use Rattle.cdb.specs.declared.commands.Command.{Command}
use Rattle.cdb.specs.declared.commands.Command.TheVariants.{TestUnitReady, RequestSense, Read, Write, Inquiry, ReadCapacity10, ReadCapacity16, SynchronizeCache, WriteSame, Unmap, CompareAndWrite, ReportLuns}
use Rattle.cdb.specs.declared.commands.InquiryData.{InquiryData}
use Rattle.cdb.specs.declared.commands.InquiryData.TheVariants.{Standard, SupportedPages, SerialNumber, DeviceIdentification, ExtendedInquiry, BlockLimits, BlockDeviceCharacteristics, LogicalBlockProvisioning}
use Rattle.cdb.specs.declared.commands.SelectReport.{SelectReport}
use Rattle.cdb.specs.declared.commands.SelectReport.TheVariants.{LogicalUnits, WellKnownLogicalUnits, AllLogicalUnits}

-- an opcode, the index of the control byte, the causes by which a CDB with this opcode is bad, and
-- what the CDB means where it isn't
pub record Row : Type 0 where
  pub opcode : ℕ
  pub control : ℕ
  pub causes : List ℕ → List Bool
  pub meaning : List ℕ → Command

abbrev pub row : ℕ → ℕ → (List ℕ → List Bool) → (List ℕ → Command) → Row
row opcode control causes meaning =
    record { opcode = opcode; control = control; causes = causes; meaning = meaning }

-- no cause
abbrev pub never : List ℕ → List Bool
never cdb = []

-- RDPROTECT, WRPROTECT or ORPROTECT isn't 0: protection information is asked for
abbrev pub protect : List ℕ → Bool
protect cdb = is_set (bits 1 7 5 cdb)

-- the logical block address of 21 bits in a CDB of 6 bytes
abbrev pub lba_6 : List ℕ → ℕ
lba_6 cdb = bits 1 4 0 cdb * 2 ^ 16 + number 2 3 cdb

-- the transfer length in a CDB of 6 bytes: 0 means 256 blocks
abbrev pub length_6 : List ℕ → ℕ
length_6 cdb = if byte 4 cdb == 0 then 256 else byte 4 cdb

-- the pages of vital product data by page code, SPC-4 §7.8 and SBC-3
abbrev pub pages : Profile → List (ℕ × InquiryData)
pages Narrow =
    (0x00, SupportedPages)
    ∷ (0x80, SerialNumber)
    ∷ (0x83, DeviceIdentification)
    ∷ (0xb0, BlockLimits)
    ∷ (0xb2, LogicalBlockProvisioning)
    ∷ []
pages Wide =
    (0x00, SupportedPages)
    ∷ (0x80, SerialNumber)
    ∷ (0x83, DeviceIdentification)
    ∷ (0x86, ExtendedInquiry)
    ∷ (0xb0, BlockLimits)
    ∷ (0xb1, BlockDeviceCharacteristics)
    ∷ (0xb2, LogicalBlockProvisioning)
    ∷ []

abbrev pub page_of : Profile → ℕ → Option InquiryData
page_of profile code = option_map (λ page. page.1) (find (λ page. page.0 == code) (pages profile))

-- what EVPD and a page code ask for: a page where EVPD is 1 (a code that has none is a cause)
abbrev pub data_asked : Profile → Bool → ℕ → InquiryData
data_asked profile evpd code = if evpd then unwrap_or (page_of profile code) Standard else Standard

-- INQUIRY: a page code without EVPD; a page that the unit lacks
abbrev pub inquiry_causes : Profile → List ℕ → List Bool
inquiry_causes profile cdb =
    (not (bit 1 0 cdb) && is_set (byte 2 cdb)) ∷ is_none (page_of profile (byte 2 cdb)) ∷ []

abbrev pub inquiry_meaning : Profile → List ℕ → Command
inquiry_meaning profile cdb = Inquiry (data_asked profile (bit 1 0 cdb) (byte 2 cdb)) (number 3 4 cdb)

-- SPC-4 §6.6
abbrev pub inquiry_row : Profile → Row
inquiry_row profile = row 0x12 5 (inquiry_causes profile) (inquiry_meaning profile)

-- the format of sense data that DESC asks for, SPC-4 §6.39
abbrev pub format_asked : Bool → SenseFormat
format_asked desc = if desc then format.Descriptor else format.Fixed

-- REQUEST SENSE: of the narrow profile DESC
abbrev pub sense_causes : Profile → List ℕ → List Bool
sense_causes Narrow cdb = bit 1 0 cdb ∷ []
sense_causes Wide cdb = []

abbrev pub sense_meaning : List ℕ → Command
sense_meaning cdb = RequestSense (format_asked (bit 1 0 cdb)) (byte 4 cdb)

-- SPC-4 §6.39
abbrev pub sense_row : Profile → Row
sense_row profile = row 0x03 5 (sense_causes profile) sense_meaning

-- SELECT REPORT 00h, 01h and 02h, SPC-4 §6.33 (another is a cause)
abbrev pub select_report : ℕ → SelectReport
select_report select =
    if select == 0x00 then LogicalUnits
    else (if select == 0x01 then WellKnownLogicalUnits else AllLogicalUnits)

-- READ CAPACITY (16), SBC-3 §5.16: a service action of this opcode other than 10h
abbrev pub capacity_row : Row
capacity_row =
    row 0x9e 15
    (λ cdb. not (bits 1 4 0 cdb == 0x10) ∷ [])
    (λ cdb. ReadCapacity16 (number 10 13 cdb))

-- WRITE SAME (16), SBC-3 §5.44: as WRITE SAME (10), and NDOB
abbrev pub same_row : Row
same_row =
    row 0x93 15
    (λ cdb. protect cdb ∷ bit 1 4 cdb ∷ is_set (bits 1 2 1 cdb) ∷ bit 1 0 cdb
    ∷ (number 10 13 cdb == 0) ∷ is_over 65536 (number 10 13 cdb) ∷ [])
    (λ cdb. WriteSame (number 2 9 cdb) (number 10 13 cdb))

-- the narrow profile
abbrev pub narrow_rows : List Row
narrow_rows =
    -- TEST UNIT READY, SPC-4 §6.47
    row 0x00 5 never (λ cdb. TestUnitReady)
    -- REQUEST SENSE, SPC-4 §6.39
    ∷ sense_row Narrow
    -- READ (6), SBC-2 §5.5
    ∷ row 0x08 5 never (λ cdb. Read (lba_6 cdb) (length_6 cdb))
    -- WRITE (6), SBC-2 §5.24
    ∷ row 0x0a 5 never (λ cdb. Write (lba_6 cdb) (length_6 cdb))
    -- INQUIRY, SPC-4 §6.6
    ∷ inquiry_row Narrow
    -- READ CAPACITY (10), SBC-3 §5.15
    ∷ row 0x25 9 never (λ cdb. ReadCapacity10)
    -- READ (10), SBC-3 §5.11
    ∷ row 0x28 9
    (λ cdb. protect cdb ∷ is_over 2048 (number 7 8 cdb) ∷ [])
    (λ cdb. Read (number 2 5 cdb) (number 7 8 cdb))
    -- WRITE (10), SBC-3 §5.33
    ∷ row 0x2a 9
    (λ cdb. protect cdb ∷ is_over 2048 (number 7 8 cdb) ∷ [])
    (λ cdb. Write (number 2 5 cdb) (number 7 8 cdb))
    -- SYNCHRONIZE CACHE (10), SBC-3 §5.26
    ∷ row 0x35 9 never (λ cdb. SynchronizeCache (number 2 5 cdb) (number 7 8 cdb))
    -- WRITE SAME (10), SBC-3 §5.43: WRPROTECT, ANCHOR, the obsolete bits, a count of 0
    ∷ row 0x41 9
    (λ cdb. protect cdb ∷ bit 1 4 cdb ∷ is_set (bits 1 2 1 cdb)
    ∷ (number 7 8 cdb == 0) ∷ is_over 65536 (number 7 8 cdb) ∷ [])
    (λ cdb. WriteSame (number 2 5 cdb) (number 7 8 cdb))
    -- UNMAP, SBC-3 §5.28: ANCHOR
    ∷ row 0x42 9
    (λ cdb. bit 1 0 cdb ∷ [])
    (λ cdb. Unmap (number 7 8 cdb))
    -- READ (16), SBC-3 §5.13
    ∷ row 0x88 15
    (λ cdb. protect cdb ∷ is_over 2048 (number 10 13 cdb) ∷ [])
    (λ cdb. Read (number 2 9 cdb) (number 10 13 cdb))
    -- COMPARE AND WRITE, SBC-3 §5.2
    ∷ row 0x89 15
    (λ cdb. protect cdb ∷ is_over 64 (byte 13 cdb) ∷ [])
    (λ cdb. CompareAndWrite (number 2 9 cdb) (byte 13 cdb))
    -- WRITE (16), SBC-3 §5.35
    ∷ row 0x8a 15
    (λ cdb. protect cdb ∷ is_over 2048 (number 10 13 cdb) ∷ [])
    (λ cdb. Write (number 2 9 cdb) (number 10 13 cdb))
    -- SYNCHRONIZE CACHE (16), SBC-3 §5.27
    ∷ row 0x91 15 never (λ cdb. SynchronizeCache (number 2 9 cdb) (number 10 13 cdb))
    -- WRITE SAME (16), SBC-3 §5.44
    ∷ same_row
    -- READ CAPACITY (16), SBC-3 §5.16
    ∷ capacity_row
    -- REPORT LUNS, SPC-4 §6.33
    ∷ row 0xa0 11
    (λ cdb. is_over 0x02 (byte 2 cdb) ∷ [])
    (λ cdb. ReportLuns (select_report (byte 2 cdb)) (number 6 9 cdb))
    -- READ (12), SBC-3 §5.12
    ∷ row 0xa8 11
    (λ cdb. protect cdb ∷ is_over 2048 (number 6 9 cdb) ∷ [])
    (λ cdb. Read (number 2 5 cdb) (number 6 9 cdb))
    -- WRITE (12), SBC-3 §5.34
    ∷ row 0xaa 11
    (λ cdb. protect cdb ∷ is_over 2048 (number 6 9 cdb) ∷ [])
    (λ cdb. Write (number 2 5 cdb) (number 6 9 cdb))
    ∷ []
