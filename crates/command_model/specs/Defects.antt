-- The data of READ DEFECT DATA, SBC-3 §5.17 and §5.18. A unit keeps no list of defects, so each list is empty.
use Rattle.std.specs.Prelude.{ℕ, ◌+◌, List, [], ◌∷◌, ◌++◌, replicate, if◌then◌else◌}
use Rattle.cdb.specs.declared.wide_commands.DefectRequest.{DefectRequest}
use Rattle.cdb.specs.declared.wide_commands.DefectForm.{DefectForm}
use Rattle.cdb.specs.declared.wide_commands.DefectForm.TheVariants.{Ten, Twelve}
use Rattle.cdb.specs.declared.wide_commands.DefectFormat.{DefectFormat}
use Rattle.cdb.specs.declared.wide_commands.DefectFormat.TheVariants.{ShortBlock, ExtendedBytesFromIndex, ExtendedPhysicalSector, LongBlock, BytesFromIndex, PhysicalSector}

-- DEFECT LIST FORMAT, SBC-3 §5.3.2
abbrev pub format_code : DefectFormat → ℕ
format_code ShortBlock = 0
format_code ExtendedBytesFromIndex = 1
format_code ExtendedPhysicalSector = 2
format_code LongBlock = 3
format_code BytesFromIndex = 4
format_code PhysicalSector = 5

-- byte 1 of the header: PLISTV (bit 4) and GLISTV (bit 3), the lists that were asked for; the format of the list
abbrev pub lists_told : DefectRequest → ℕ
lists_told request =
    (if request.primary then 0x10 else 0) + (if request.grown then 0x08 else 0) + format_code request.format

-- what stands behind byte 1: DEFECT LIST LENGTH (2), or GENERATION CODE (2), 0 since it isn't told, and DEFECT LIST LENGTH
-- (4)
abbrev pub rest_bytes : DefectForm → ℕ
rest_bytes Ten = 2
rest_bytes Twelve = 6

abbrev pub defect_data : DefectRequest → List ℕ
defect_data request = (0x00 ∷ lists_told request ∷ []) ++ replicate (rest_bytes request.form) 0x00
