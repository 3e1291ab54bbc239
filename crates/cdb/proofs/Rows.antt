-- A CDB is decoded by its row.
use Rattle.std.proofs.Common.{arith, ◌≢◌, ◌≡◌, ℕ, List, Bool, true, false, Option, Some, None, unwrap_or, if◌then◌else◌, ◌||◌, refl, sym, ap, ◌∙◌}
use Rattle.std.proofs.lemmas.Bool.Decides.{nat_tests}
use Rattle.cdb.specs.Fields.{byte, bit}
use Rattle.cdb.specs.Profile.{Row}
use Rattle.cdb.specs.Decoding.{any, row_of, naca, command_by, command}
use Rattle.cdb.specs.Inner.Decoding.{unless}
use Rattle.cdb.specs.declared.profile.Profile.{Profile}
use Rattle.cdb.specs.declared.profile.Profile.TheVariants.{Narrow, Wide}
use Rattle.cdb.specs.declared.commands.Command.{Command}
use Rattle.cdb.specs.declared.commands.Command.TheVariants.{Bad}

-- NACA and the other causes in turn are the causes at once
two_tests : (naca caused : Bool) (bad meaning : Command) →
    (if naca then bad else unwrap_or (if caused then None else Some meaning) bad)
    ≡ (if naca || caused then bad else meaning)
two_tests true true bad meaning = refl
two_tests true false bad meaning = refl
two_tests false true bad meaning = refl
two_tests false false bad meaning = refl

-- what a row says of a CDB, read in two steps
in_row : (cdb : List ℕ) (row : Row) (opcode : ℕ) (fields : Option Command) (out : Command) →
    opcode ≡ row.opcode → fields ≡ unless (row.causes cdb) (row.meaning cdb) →
    out ≡ (if bit row.control 2 cdb then Bad opcode else unwrap_or fields (Bad opcode)) →
    out ≡ command_by (Some row) cdb
in_row cdb row opcode fields out is_opcode is_fields is_out =
    cc (two_tests (naca row cdb) (any (row.causes cdb)) (Bad row.opcode) (row.meaning cdb))

pub by_row_at : (profile : Profile) (cdb : List ℕ) (k : ℕ) (row : Row) (fields : Option Command) (out : Command) →
    byte 0 cdb ≡ k → row_of profile k ≡ Some row → k ≡ row.opcode →
    fields ≡ unless (row.causes cdb) (row.meaning cdb) →
    out ≡ (if bit row.control 2 cdb then Bad (byte 0 cdb) else unwrap_or fields (Bad (byte 0 cdb))) →
    out ≡ command profile cdb
unfolding command
by_row_at profile cdb k row fields out at_k is_row is_k is_fields is_out =
    in_row cdb row (byte 0 cdb) fields out (at_k ∙ is_k) is_fields is_out
    ∙ sym (ap (λ found. command_by found cdb) (ap (row_of profile) at_k ∙ is_row))

-- a row that each profile has for an opcode
in_each : (profile : Profile) (k : ℕ) (row : Profile → Row) → row_of Narrow k ≡ Some (row Narrow) →
    row_of Wide k ≡ Some (row Wide) → row_of profile k ≡ Some (row profile)
in_each Narrow k row narrow wide = narrow
in_each Wide k row narrow wide = wide

pub by_each : (profile : Profile) (cdb : List ℕ) (k : ℕ) (row : Profile → Row) (fields : Option Command) (out : Command) →
    byte 0 cdb ≡ k → row_of Narrow k ≡ Some (row Narrow) → row_of Wide k ≡ Some (row Wide) → k ≡ (row profile).opcode →
    fields ≡ unless ((row profile).causes cdb) ((row profile).meaning cdb) →
    out ≡ (if bit (row profile).control 2 cdb then Bad (byte 0 cdb) else unwrap_or fields (Bad (byte 0 cdb))) →
    out ≡ command profile cdb
by_each profile cdb k row fields out at_k narrow wide is_k is_fields is_out =
    by_row_at profile cdb k (row profile) fields out at_k (in_each profile k row narrow wide) is_k is_fields is_out

-- a row that both profiles have
pub by_row : (profile : Profile) (cdb : List ℕ) (k : ℕ) (row : Row) (fields : Option Command) (out : Command) →
    byte 0 cdb ≡ k → row_of Narrow k ≡ Some row → row_of Wide k ≡ Some row → k ≡ row.opcode →
    fields ≡ unless (row.causes cdb) (row.meaning cdb) →
    out ≡ (if bit row.control 2 cdb then Bad (byte 0 cdb) else unwrap_or fields (Bad (byte 0 cdb))) →
    out ≡ command profile cdb
by_row profile cdb k row fields out at_k narrow wide is_k is_fields is_out =
    by_each profile cdb k (λ _. row) fields out at_k narrow wide is_k is_fields is_out

-- an opcode that is none of the narrow profile's has no row there
pub narrow_none : (x : ℕ) →
    x ≢ 0x00 → x ≢ 0x03 → x ≢ 0x08 → x ≢ 0x0a → x ≢ 0x12 → x ≢ 0x25 → x ≢ 0x28 → x ≢ 0x2a → x ≢ 0x35
    → x ≢ 0x41 → x ≢ 0x42 → x ≢ 0x88 → x ≢ 0x89 → x ≢ 0x8a → x ≢ 0x91 → x ≢ 0x93 → x ≢ 0x9e
    → x ≢ 0xa0 → x ≢ 0xa8 → x ≢ 0xaa → row_of Narrow x ≡ None
narrow_none x a1 a2 a3 a4 a5 a6 a7 a8 a9 b1 b2 b3 b4 b5 b6 b7 b8 b9 d1 d2 = grind (arith, nat_tests)
