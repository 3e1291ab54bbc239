-- The command that a CDB asks for, by the table of a profile.
use Rattle.std.specs.Prelude.{ℕ, ◌==◌, Bool, List, ◌∷◌, ◌++◌, if◌then◌else◌, Option, None, Some, find}
use Rattle.std.specs.List.{list_any}
use Rattle.cdb.specs.Fields.{byte, bit}
use Rattle.cdb.specs.Profile.{Row, narrow_rows, inquiry_row, sense_row}
use Rattle.cdb.specs.WideProfile.{wide_rows}
use Rattle.cdb.specs.declared.profile.Profile.{Profile}
use Rattle.cdb.specs.declared.profile.Profile.TheVariants.{Narrow, Wide}
use Rattle.cdb.specs.declared.commands.Command.{Command}
use Rattle.cdb.specs.declared.commands.Command.TheVariants.{Bad, Unknown}

-- some test of the list holds
abbrev pub any : List Bool → Bool
any tests = list_any (λ test. test) tests

-- the rows of a profile, of which the first for an opcode counts: the wide one has rows of its own before the narrow
-- one's
abbrev pub rows : Profile → List Row
rows Narrow = narrow_rows
rows Wide = inquiry_row Wide ∷ sense_row Wide ∷ (wide_rows ++ narrow_rows)

-- the row of an opcode
abbrev pub row_of : Profile → ℕ → Option Row
row_of profile opcode = find (λ row. row.opcode == opcode) (rows profile)

-- NACA, bit 2 of the control byte, SAM-5 §5.2
abbrev pub naca : Row → List ℕ → Bool
naca row cdb = bit row.control 2 cdb

-- bad where NACA is 1 or a cause holds, else what the row means
abbrev pub command_by : Option Row → List ℕ → Command
command_by None cdb = Unknown
command_by (Some row) cdb =
    if any (naca row cdb ∷ row.causes cdb) then Bad row.opcode else row.meaning cdb

-- the command: unknown where the opcode has no row
unfoldable pub command : Profile → List ℕ → Command
command profile cdb = command_by (row_of profile (byte 0 cdb)) cdb
