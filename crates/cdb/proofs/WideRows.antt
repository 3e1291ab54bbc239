-- Opcodes that the narrow profile lacks, in the wide one.
use Rattle.std.proofs.Common.{arith, ◌≢◌, ◌≡◌, ℕ, List, Some, None, refl, sym, ap, ◌∙◌}
use Rattle.std.specs.Prelude.{◌∷◌, ◌==◌}
use Rattle.std.specs.List.{find}
use Rattle.std.proofs.lemmas.Bool.Decides.{nat_tests}
use Rattle.std.proofs.lemmas.List.Folds.{find-append}
use Rattle.cdb.specs.Fields.{byte}
use Rattle.cdb.specs.Profile.{Row, narrow_rows, inquiry_row, sense_row}
use Rattle.cdb.specs.WideProfile.{wide_rows}
use Rattle.cdb.specs.Decoding.{row_of, command_by, command}
use Rattle.cdb.proofs.Rows.{narrow_none}
use Rattle.cdb.specs.declared.profile.Profile.{Profile}
use Rattle.cdb.specs.declared.profile.Profile.TheVariants.{Narrow, Wide}
use Rattle.cdb.specs.declared.commands.Command.TheVariants.{Unknown}

-- an opcode that the narrow profile lacks is none of its opcodes
other : (x k : ℕ) (row : Row) → row_of Narrow k ≡ Some row → row_of Narrow x ≡ None → x ≢ k
other x k row is lacks same =
    let both : Some row ≡ None = sym is ∙ ap (row_of Narrow) (sym same) ∙ lacks in
    cc

own_none : (x : ℕ) →
    x ≢ 0x04 → x ≢ 0x12 → x ≢ 0x03 → x ≢ 0x15 → x ≢ 0x1a → x ≢ 0x1b → x ≢ 0x1d → x ≢ 0x1e → x ≢ 0x2e → x ≢ 0x2f → x ≢ 0x34 → x ≢ 0x37 → x ≢ 0x55
    → x ≢ 0x5a → x ≢ 0x8b → x ≢ 0x8e → x ≢ 0x8f → x ≢ 0x90 → x ≢ 0x93 → x ≢ 0x9e → x ≢ 0xa3 → x ≢ 0xae → x ≢ 0xaf → x ≢ 0xb7
    → find (λ row. row.opcode == x) (inquiry_row Wide ∷ sense_row Wide ∷ wide_rows) ≡ None
own_none x a04 a1 a3s a15 a2 a3 a4 a5 a6 a7 a8 a37 a55 a9 b8b b1 b2 b3 b93 b4 a163 b5 b6 b7 = grind (arith, nat_tests)

wide_none : (x : ℕ) → find (λ row. row.opcode == x) (inquiry_row Wide ∷ sense_row Wide ∷ wide_rows) ≡ None → row_of Narrow x ≡ None →
    row_of Wide x ≡ None
wide_none x own narrow =
    find-append (λ row. row.opcode == x) (inquiry_row Wide ∷ sense_row Wide ∷ wide_rows) narrow_rows ∙ rw (own, narrow) refl

pub by_narrow : (cdb : List ℕ) → row_of Narrow (byte 0 cdb) ≡ None → Unknown ≡ command Narrow cdb
unfolding command
by_narrow cdb lacks = sym (ap (λ found. command_by found cdb) lacks)

pub by_none_at : (cdb : List ℕ) → row_of Narrow (byte 0 cdb) ≡ None →
    let x = byte 0 cdb in
    x ≢ 0x04 → x ≢ 0x15 → x ≢ 0x1a → x ≢ 0x1b → x ≢ 0x1d → x ≢ 0x1e → x ≢ 0x2e → x ≢ 0x2f → x ≢ 0x34 → x ≢ 0x37 → x ≢ 0x55 → x ≢ 0x5a
    → x ≢ 0x8b → x ≢ 0x8e → x ≢ 0x8f → x ≢ 0x90 → x ≢ 0xa3 → x ≢ 0xae → x ≢ 0xaf → x ≢ 0xb7 → Unknown ≡ command Wide cdb
unfolding command
by_none_at cdb lacks a04 a15 a2 a3 a4 a5 a6 a7 a8 a37 a55 a9 b8b b1 b2 b3 a163 b5 b6 b7 =
    let x = byte 0 cdb in
    let own = own_none x a04 (other x 0x12 _ refl lacks) (other x 0x03 _ refl lacks) a15 a2 a3 a4 a5 a6 a7 a8 a37 a55 a9 b8b b1 b2 b3 (other x 0x93 _ refl lacks) (other x 0x9e _ refl lacks) a163 b5 b6 b7 in
    sym (ap (λ found. command_by found cdb) (wide_none x own lacks))

none_either : (profile : Profile) (cdb : List ℕ) → Unknown ≡ command Narrow cdb → Unknown ≡ command Wide cdb →
    Unknown ≡ command profile cdb
none_either Narrow cdb narrow wide = narrow
none_either Wide cdb narrow wide = wide

pub by_none : (profile : Profile) (cdb : List ℕ) →
    let x = byte 0 cdb in
    x ≢ 0x00 → x ≢ 0x03 → x ≢ 0x08 → x ≢ 0x0a → x ≢ 0x12 → x ≢ 0x25 → x ≢ 0x28 → x ≢ 0x2a → x ≢ 0x35
    → x ≢ 0x41 → x ≢ 0x42 → x ≢ 0x88 → x ≢ 0x89 → x ≢ 0x8a → x ≢ 0x91 → x ≢ 0x93 → x ≢ 0x9e
    → x ≢ 0xa0 → x ≢ 0xa8 → x ≢ 0xaa
    → x ≢ 0x04 → x ≢ 0x15 → x ≢ 0x1a → x ≢ 0x1b → x ≢ 0x1d → x ≢ 0x1e → x ≢ 0x2e → x ≢ 0x2f → x ≢ 0x34 → x ≢ 0x37 → x ≢ 0x55 → x ≢ 0x5a
    → x ≢ 0x8b → x ≢ 0x8e → x ≢ 0x8f → x ≢ 0x90 → x ≢ 0xa3 → x ≢ 0xae → x ≢ 0xaf → x ≢ 0xb7 → Unknown ≡ command profile cdb
by_none profile cdb a1 a2 a3 a4 a5 a6 a7 a8 a9 b1 b2 b3 b4 b5 b6 b7 b8 b9 d1 d2 e04 e15 e1 e2 e3 e4 e5 e6 e7 e37 e55 e8 e8b e9 f1 f2 e163 f3 f4 f5 =
    let lacks = narrow_none (byte 0 cdb) a1 a2 a3 a4 a5 a6 a7 a8 a9 b1 b2 b3 b4 b5 b6 b7 b8 b9 d1 d2 in
    none_either profile cdb (by_narrow cdb lacks) (by_none_at cdb lacks e04 e15 e1 e2 e3 e4 e5 e6 e7 e37 e55 e8 e8b e9 f1 f2 e163 f3 f4 f5)
