-- The rows of the wide profile's own: SPC-4 and SBC-3.
use Rattle.std.specs.Prelude.{ℕ, ◌==◌, Bool, ◌||◌, ◌&&◌, not, nat_lt, List, [], ◌∷◌, if◌then◌else◌, Option, find, unwrap_or, option_map, is_none}
use Rattle.std.specs.List.{list_any}
use Rattle.cdb.specs.Fields.{byte, bits, bit, number, is_set, is_over}
use Rattle.cdb.specs.Profile.{Row, row, never, protect}
use Rattle.cdb.specs.declared.commands.Command.{Command}
use Rattle.cdb.specs.declared.commands.Command.TheVariants.{TestUnitReady, Write, ReadCapacity16, SynchronizeCache, WriteSame, Wide}
use Rattle.cdb.specs.declared.wide_commands.WideCommand.TheVariants.{ModeSense, ModeSelect, ReportTaskManagement, ReportOperationCodes, GetLbaStatus, Verify, WriteZeros, OrWrite, FormatUnit, ReadDefectData}
use Rattle.cdb.specs.declared.wide_commands.FormatList.{FormatList}
use Rattle.cdb.specs.declared.wide_commands.FormatList.TheVariants.{NoList, ShortHeader, LongHeader}
use Rattle.cdb.specs.declared.wide_commands.CodesAsked.{CodesAsked}
use Rattle.cdb.specs.declared.wide_commands.CodesAsked.TheVariants.{AllCommands, OneCommand, OneServiceAction, OneOfEither}
use Rattle.cdb.specs.declared.wide_commands.DefectForm.{DefectForm}
use Rattle.cdb.specs.declared.wide_commands.DefectForm.TheVariants as defect
use Rattle.cdb.specs.declared.wide_commands.DefectFormat.{DefectFormat}
use Rattle.cdb.specs.declared.wide_commands.DefectFormat.TheVariants.{ShortBlock, ExtendedBytesFromIndex, ExtendedPhysicalSector, LongBlock, BytesFromIndex, PhysicalSector}
use Rattle.cdb.specs.declared.wide_commands.VerifyData.TheVariants.{EachBlock, OneBlock}
use Rattle.cdb.specs.declared.wide_commands.ModeForm.{ModeForm}
use Rattle.cdb.specs.declared.wide_commands.ModeForm.TheVariants.{Six, Ten}
use Rattle.cdb.specs.declared.wide_commands.ModeDescriptor.{ModeDescriptor}
use Rattle.cdb.specs.declared.wide_commands.ModeDescriptor.TheVariants.{Absent, Short, Long}
use Rattle.cdb.specs.declared.wide_commands.ModePages.{ModePages}
use Rattle.cdb.specs.declared.wide_commands.ModePages.TheVariants.{ErrorRecovery, Caching, Control, InformationalExceptions, All}
use Rattle.cdb.specs.declared.wide_commands.ModeValues.{ModeValues}
use Rattle.cdb.specs.declared.wide_commands.ModeValues.TheVariants.{Current, Changeable, Default, Saved}

-- the mode pages by page code, SPC-4 §7.5 and SBC-3 §6.5
abbrev pub mode_codes : List (ℕ × ModePages)
mode_codes =
    (0x01, ErrorRecovery)
    ∷ (0x08, Caching)
    ∷ (0x0a, Control)
    ∷ (0x1c, InformationalExceptions)
    ∷ (0x3f, All)
    ∷ []

abbrev pub mode_pages_of : ℕ → Option ModePages
mode_pages_of code = option_map (λ page. page.1) (find (λ page. page.0 == code) mode_codes)

-- the field PC, SPC-4 §6.13
abbrev pub mode_values : ℕ → ModeValues
mode_values control =
    if control == 0 then Current
    else (if control == 1 then Changeable else (if control == 2 then Default else Saved))

-- the subpage codes: that of the page itself, and that of the page with all its subpages, of which there are none
abbrev pub subpages : List ℕ
subpages = 0x00 ∷ 0xff ∷ []

-- MODE SENSE: a page or a subpage that the unit lacks
abbrev pub mode_causes : List ℕ → List Bool
mode_causes cdb =
    is_none (mode_pages_of (bits 2 5 0 cdb)) ∷ not (list_any (λ known. known == byte 3 cdb) subpages) ∷ []

-- MODE SENSE in a form, with the block descriptor that is to be returned
abbrev pub mode_sense_of : ModeForm → ModeDescriptor → ℕ → List ℕ → Command
mode_sense_of form descriptor allocation cdb =
    Wide (ModeSense (record {
      form = form;
      descriptor = descriptor;
      pages = unwrap_or (mode_pages_of (bits 2 5 0 cdb)) All;
      values = mode_values (bits 2 7 6 cdb);
      allocation = allocation;
    }))

-- MODE SELECT: PF where it is 0, SP
abbrev pub select_causes : List ℕ → List Bool
select_causes cdb = not (bit 1 4 cdb) ∷ bit 1 0 cdb ∷ []

-- WRITE AND VERIFY, SBC-3 §5.37: BYTCHK 10b and 11b, and what makes a WRITE bad
abbrev pub written_causes : ℕ → List ℕ → List Bool
written_causes count cdb = is_over 1 (bits 1 2 1 cdb) ∷ protect cdb ∷ is_over 2048 count ∷ []

-- VERIFY, SBC-3 §5.29: BYTCHK 10b, VRPROTECT
abbrev pub verified_causes : ℕ → List ℕ → List Bool
verified_causes count cdb = (bits 1 2 1 cdb == 2) ∷ protect cdb ∷ is_over 2048 count ∷ []

-- by BYTCHK: nothing is compared; each block with a block of data, or with the one block of data
abbrev pub verified : ℕ → ℕ → List ℕ → Command
verified lba count cdb =
    if bits 1 2 1 cdb == 0 then SynchronizeCache lba count
    else (if bits 1 2 1 cdb == 1 then Wide (Verify EachBlock count lba) else Wide (Verify OneBlock count lba))

-- WRITE SAME (16), SBC-3 §5.44: without data where NDOB is 1
abbrev pub same_causes : List ℕ → List Bool
same_causes cdb =
    protect cdb ∷ bit 1 4 cdb ∷ is_set (bits 1 2 1 cdb)
    ∷ (number 10 13 cdb == 0) ∷ is_over 65536 (number 10 13 cdb) ∷ []

abbrev pub same_meaning : List ℕ → Command
same_meaning cdb =
    if bit 1 0 cdb then Wide (WriteZeros (number 10 13 cdb) (number 2 9 cdb))
    else WriteSame (number 2 9 cdb) (number 10 13 cdb)

abbrev pub wide_same_row : Row
wide_same_row = row 0x93 15 same_causes same_meaning

-- SERVICE ACTION IN (16): a service action but READ CAPACITY (16) and GET LBA STATUS
abbrev pub action_causes : List ℕ → List Bool
action_causes cdb = not (bits 1 4 0 cdb == 0x10 || bits 1 4 0 cdb == 0x12) ∷ []

abbrev pub action_meaning : List ℕ → Command
action_meaning cdb =
    if bits 1 4 0 cdb == 0x10 then ReadCapacity16 (number 10 13 cdb)
    else Wide (GetLbaStatus (number 10 13 cdb) (number 2 9 cdb))

abbrev pub service_row : Row
service_row = row 0x9e 15 action_causes action_meaning

-- MAINTENANCE IN: a service action but REPORT SUPPORTED OPERATION CODES and REPORT SUPPORTED TASK MANAGEMENT FUNCTIONS; of
-- the first a reporting option over 011b; of the second an allocation length below 4
abbrev pub maintenance_causes : List ℕ → List Bool
maintenance_causes cdb =
    not (bits 1 4 0 cdb == 0x0c || bits 1 4 0 cdb == 0x0d)
    ∷ (bits 1 4 0 cdb == 0x0c && is_over 3 (bits 2 2 0 cdb))
    ∷ (bits 1 4 0 cdb == 0x0d && nat_lt (number 6 9 cdb) 4)
    ∷ []

-- the commands that a reporting option asks for
abbrev pub codes_asked : ℕ → ℕ → ℕ → CodesAsked
codes_asked option opcode action =
    if option == 0 then AllCommands
    else (if option == 1 then OneCommand opcode
    else (if option == 2 then OneServiceAction opcode action else OneOfEither opcode action))

abbrev pub maintenance_meaning : List ℕ → Command
maintenance_meaning cdb =
    if bits 1 4 0 cdb == 0x0c
    then Wide (ReportOperationCodes (codes_asked (bits 2 2 0 cdb) (byte 3 cdb) (number 4 5 cdb)) (bit 2 7 cdb) (number 6 9 cdb))
    else Wide (ReportTaskManagement (bit 2 7 cdb) (number 6 9 cdb))

-- FORMAT UNIT, SBC-3 §5.3: FMTPINFO; DEFECT LIST FORMAT. CMPLST changes nothing where no list of defects is taken.
abbrev pub format_causes : List ℕ → List Bool
format_causes cdb = is_set (bits 1 7 6 cdb) ∷ is_set (bits 1 2 0 cdb) ∷ []

-- the parameter list by FMTDATA and LONGLIST
abbrev pub format_list : Bool → Bool → FormatList
format_list has_list is_long = if has_list then (if is_long then LongHeader else ShortHeader) else NoList

-- the formats of an address descriptor by DEFECT LIST FORMAT, SBC-3 §5.3.2; 110b is vendor specific, 111b reserved
abbrev pub defect_formats : List (ℕ × DefectFormat)
defect_formats =
    (0, ShortBlock)
    ∷ (1, ExtendedBytesFromIndex)
    ∷ (2, ExtendedPhysicalSector)
    ∷ (3, LongBlock)
    ∷ (4, BytesFromIndex)
    ∷ (5, PhysicalSector)
    ∷ []

abbrev pub defect_format_of : ℕ → Option DefectFormat
defect_format_of code = option_map (λ format. format.1) (find (λ format. format.0 == code) defect_formats)

-- READ DEFECT DATA, SBC-3 §5.17: a format that there isn't
abbrev pub defect_causes : ℕ → List Bool
defect_causes code = is_none (defect_format_of code) ∷ []

-- READ DEFECT DATA in a form: REQ_PLIST, REQ_GLIST, DEFECT LIST FORMAT, allocation length
abbrev pub defects_asked : DefectForm → Bool → Bool → ℕ → ℕ → Command
defects_asked form primary grown code allocation =
    Wide (ReadDefectData (record {
      form = form;
      primary = primary;
      grown = grown;
      format = unwrap_or (defect_format_of code) ShortBlock;
      allocation = allocation;
    }))

abbrev pub wide_rows : List Row
wide_rows =
    -- FORMAT UNIT, SBC-3 §5.3
    row 0x04 5 format_causes (λ cdb. Wide (FormatUnit (format_list (bit 1 4 cdb) (bit 1 5 cdb))))
    -- MODE SELECT (6), SPC-4 §6.11
    ∷ row 0x15 5 select_causes (λ cdb. Wide (ModeSelect Six (byte 4 cdb)))
    -- MODE SENSE (6), SPC-4 §6.13: DBD is bit 3 of byte 1
    ∷ row 0x1a 5 mode_causes
    (λ cdb. mode_sense_of Six (if bit 1 3 cdb then Absent else Short) (byte 4 cdb) cdb)
    -- START STOP UNIT, SBC-3 §5.25: POWER CONDITION, LOEJ, and START where it is 0
    ∷ row 0x1b 5
    (λ cdb. is_set (bits 4 7 4 cdb) ∷ bit 4 1 cdb ∷ not (bit 4 0 cdb) ∷ [])
    (λ cdb. TestUnitReady)
    -- SEND DIAGNOSTIC, SPC-4 §6.42: SELF-TEST CODE, a parameter list
    ∷ row 0x1d 5
    (λ cdb. is_set (bits 1 7 5 cdb) ∷ is_set (number 3 4 cdb) ∷ [])
    (λ cdb. TestUnitReady)
    -- PREVENT ALLOW MEDIUM REMOVAL, SBC-3 §5.10: the obsolete values of PREVENT, 10b and 11b
    ∷ row 0x1e 5 (λ cdb. is_over 1 (bits 4 1 0 cdb) ∷ []) (λ cdb. TestUnitReady)
    -- WRITE AND VERIFY (10), SBC-3 §5.37
    ∷ row 0x2e 9
    (λ cdb. written_causes (number 7 8 cdb) cdb)
    (λ cdb. Write (number 2 5 cdb) (number 7 8 cdb))
    -- VERIFY (10), SBC-3 §5.29
    ∷ row 0x2f 9
    (λ cdb. verified_causes (number 7 8 cdb) cdb)
    (λ cdb. verified (number 2 5 cdb) (number 7 8 cdb) cdb)
    -- PRE-FETCH (10), SBC-3 §5.8
    ∷ row 0x34 9 never (λ cdb. SynchronizeCache (number 2 5 cdb) (number 7 8 cdb))
    -- READ DEFECT DATA (10), SBC-3 §5.17
    ∷ row 0x37 9
    (λ cdb. defect_causes (bits 2 2 0 cdb))
    (λ cdb. defects_asked defect.Ten (bit 2 4 cdb) (bit 2 3 cdb) (bits 2 2 0 cdb) (number 7 8 cdb))
    -- MODE SELECT (10), SPC-4 §6.12
    ∷ row 0x55 9 select_causes (λ cdb. Wide (ModeSelect Ten (number 7 8 cdb)))
    -- MODE SENSE (10), SPC-4 §6.14: DBD is bit 3 of byte 1, LLBAA bit 4
    ∷ row 0x5a 9 mode_causes
    (λ cdb. mode_sense_of Ten (if bit 1 3 cdb then Absent else (if bit 1 4 cdb then Long else Short)) (number 7 8 cdb) cdb)
    -- ORWRITE (16), SBC-3 §5.5: ORPROTECT
    ∷ row 0x8b 15
    (λ cdb. protect cdb ∷ is_over 2048 (number 10 13 cdb) ∷ [])
    (λ cdb. Wide (OrWrite (number 10 13 cdb) (number 2 9 cdb)))
    -- WRITE AND VERIFY (16), SBC-3 §5.39
    ∷ row 0x8e 15
    (λ cdb. written_causes (number 10 13 cdb) cdb)
    (λ cdb. Write (number 2 9 cdb) (number 10 13 cdb))
    -- VERIFY (16), SBC-3 §5.31
    ∷ row 0x8f 15
    (λ cdb. verified_causes (number 10 13 cdb) cdb)
    (λ cdb. verified (number 2 9 cdb) (number 10 13 cdb) cdb)
    -- PRE-FETCH (16), SBC-3 §5.9
    ∷ row 0x90 15 never (λ cdb. SynchronizeCache (number 2 9 cdb) (number 10 13 cdb))
    -- WRITE SAME (16), SBC-3 §5.44
    ∷ wide_same_row
    -- READ CAPACITY (16), SBC-3 §5.16, and GET LBA STATUS, SBC-3 §5.4
    ∷ service_row
    -- REPORT SUPPORTED OPERATION CODES, SPC-4 §6.35, and REPORT SUPPORTED TASK MANAGEMENT FUNCTIONS, SPC-4 §6.36
    ∷ row 0xa3 11 maintenance_causes maintenance_meaning
    -- WRITE AND VERIFY (12), SBC-3 §5.38
    ∷ row 0xae 11
    (λ cdb. written_causes (number 6 9 cdb) cdb)
    (λ cdb. Write (number 2 5 cdb) (number 6 9 cdb))
    -- VERIFY (12), SBC-3 §5.30
    ∷ row 0xaf 11
    (λ cdb. verified_causes (number 6 9 cdb) cdb)
    (λ cdb. verified (number 2 5 cdb) (number 6 9 cdb) cdb)
    -- READ DEFECT DATA (12), SBC-3 §5.18. The list is empty, so none of it stands behind any ADDRESS DESCRIPTOR INDEX.
    ∷ row 0xb7 11
    (λ cdb. defect_causes (bits 1 2 0 cdb))
    (λ cdb. defects_asked defect.Twelve (bit 1 4 cdb) (bit 1 3 cdb) (bits 1 2 0 cdb) (number 6 9 cdb))
    ∷ []
