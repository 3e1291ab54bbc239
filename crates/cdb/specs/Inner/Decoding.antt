-- Rests on `specs/Decoding.antt`; no promise rests on it.
use Rattle.std.specs.Prelude.{ℕ, Bool, List, if◌then◌else◌, Option, None, Some}
use Rattle.cdb.specs.Profile.{Row, row, capacity_row, same_row}
use Rattle.cdb.specs.WideProfile.{service_row, wide_same_row}
use Rattle.cdb.specs.Decoding.{any, row_of}
use Rattle.cdb.specs.declared.profile.Profile.{Profile}
use Rattle.cdb.specs.declared.profile.Profile.TheVariants.{Narrow, Wide}
use Rattle.cdb.specs.declared.commands.Command.{Command}

-- something, unless a cause holds
abbrev pub unless : {A : Type 0} → List Bool → A → Option A
unless causes meaning = if any causes then None else Some meaning

-- what the fields of a CDB say by the row of an opcode, whatever the control byte
abbrev pub fields_by : Option Row → List ℕ → Option Command
fields_by None cdb = None
fields_by (Some row) cdb = unless (row.causes cdb) (row.meaning cdb)

abbrev pub fields_of : Profile → ℕ → List ℕ → Option Command
fields_of profile opcode cdb = fields_by (row_of profile opcode) cdb

-- the row of WRITE SAME (16)
abbrev pub same_causes : Profile → List ℕ → List Bool
same_causes Narrow = same_row.causes
same_causes Wide = wide_same_row.causes

abbrev pub same_meaning : Profile → List ℕ → Command
same_meaning Narrow = same_row.meaning
same_meaning Wide = wide_same_row.meaning

abbrev pub same_rows : Profile → Row
same_rows profile = row 0x93 15 (same_causes profile) (same_meaning profile)

-- the row of SERVICE ACTION IN (16)
abbrev pub service_causes : Profile → List ℕ → List Bool
service_causes Narrow = capacity_row.causes
service_causes Wide = service_row.causes

abbrev pub service_meaning : Profile → List ℕ → Command
service_meaning Narrow = capacity_row.meaning
service_meaning Wide = service_row.meaning

abbrev pub service_actions : Profile → Row
service_actions profile = row 0x9e 15 (service_causes profile) (service_meaning profile)
