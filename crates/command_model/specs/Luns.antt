-- The data of REPORT LUNS, SPC-4 §6.33.
use Rattle.std.specs.Prelude.{ℕ, ◌+◌, ◌*◌, ◌/◌, ◌%◌, nat_lt, List, [], ◌∷◌, ◌++◌, length, replicate, if◌then◌else◌}
use Rattle.std.specs.List.{flat_map}
use Rattle.std.specs.Int.{w32, to_be_bytes}
use Rattle.cdb.specs.declared.commands.SelectReport.{SelectReport}
use Rattle.cdb.specs.declared.commands.SelectReport.TheVariants.{LogicalUnits, WellKnownLogicalUnits, AllLogicalUnits}

-- the two bytes of a LUN: 00h and the LUN where that is below 256 (peripheral device addressing, SAM-5
-- §4.7.7.2), else 01b and the LUN in 14 bits (flat space addressing, SAM-5 §4.7.7.3)
abbrev pub lun_bytes : ℕ → List ℕ
lun_bytes lun =
    if nat_lt lun 256 then 0x00 ∷ lun ∷ []
    else (0x40 + lun / 256 % 64) ∷ lun % 256 ∷ []

-- an entry of 8 bytes
abbrev pub lun_entry : ℕ → List ℕ
lun_entry lun = lun_bytes lun ++ replicate 6 0x00

-- the LUNs that are listed: no unit is a well known one
abbrev pub listed : SelectReport → List ℕ → List ℕ
listed LogicalUnits numbers = numbers
listed WellKnownLogicalUnits numbers = []
listed AllLogicalUnits numbers = numbers

-- the bytes that follow the first 8, 4 reserved bytes, and the entries
abbrev pub lun_list : List ℕ → List ℕ
lun_list numbers =
    to_be_bytes w32 (8 * length numbers) ++ replicate 4 0x00 ++ flat_map lun_entry numbers
