-- A profile's rows by their opcodes.
use Rattle.std.proofs.Common.{◌≡◌, ◌≢◌, ℕ, ◌==◌, List, ◌∷◌, Bool, true, false, ◌||◌, ◌&&◌, if◌then◌else◌, Some, None, refl, sym, ap, ◌∙◌, subst}
use Rattle.std.specs.List.{list_all}
use Rattle.std.proofs.lemmas.Bool.{eqb-true}
use Rattle.cdb.specs.Fields.{byte, bit, bits, number, is_set, is_over}
use Rattle.cdb.specs.Profile.{Row}
use Rattle.cdb.specs.WideProfile.{verified}
use Rattle.cdb.specs.declared.profile.Profile.{Profile}
use Rattle.cdb.specs.declared.profile.Profile.TheVariants.{Narrow, Wide}
use Rattle.cdb.specs.Opcodes.{is_profiled, control_of}
use Rattle.cdb.specs.Decoding.{any, rows, row_of, naca, command_by, command}
use Rattle.cdb.proofs.Finding.{Found, found, none}
use Rattle.cdb.specs.declared.commands.Command.{Command}
use Rattle.cdb.specs.declared.commands.Command.TheVariants.{Read, Bad, Unknown}

-- the row of an opcode of the profile
row_at : (profile : Profile) (x : ℕ) → is_profiled profile x ≡ true → Found Row (λ row. row.opcode == x) (rows profile)
row_at Narrow x h = found (λ row. row.opcode == x) (rows Narrow) h
row_at Wide x h = found (λ row. row.opcode == x) (rows Wide) h

-- a CDB's command by the row that was found
by_found : (profile : Profile) (cdb : List ℕ) (found : Found Row (λ row. row.opcode == byte 0 cdb) (rows profile)) →
    command profile cdb ≡ command_by (Some found.item) cdb
unfolding command
by_found profile cdb found = ap (λ row. command_by row cdb) found.is

none_at : (profile : Profile) (x : ℕ) → is_profiled profile x ≡ false → row_of profile x ≡ None
none_at Narrow x h = none (λ row. row.opcode == x) (rows Narrow) h
none_at Wide x h = none (λ row. row.opcode == x) (rows Wide) h

pub unknown : (profile : Profile) (cdb : List ℕ) → is_profiled profile (byte 0 cdb) ≡ false → command profile cdb ≡ Unknown
unfolding command
unknown profile cdb h = ap (λ row. command_by row cdb) (none_at profile (byte 0 cdb) h)

abbrev is_known : Command → Bool
is_known Unknown = false
is_known _ = true

either_known : (b : Bool) (opcode : ℕ) (meaning : Command) → is_known meaning ≡ true →
    is_known (if b then Bad opcode else meaning) ≡ true
either_known true opcode meaning h = refl
either_known false opcode meaning h = h

either_meant : (b : Bool) (x y : Command) → is_known x ≡ true → is_known y ≡ true → is_known (if b then x else y) ≡ true
either_meant true x y first second = first
either_meant false x y first second = second

both : (a b : Bool) → a ≡ true → b ≡ true → (a && b) ≡ true
both true b first second = second
both false b first second = first

verified_known : (lba count : ℕ) (cdb : List ℕ) → is_known (verified lba count cdb) ≡ true
verified_known lba count cdb =
    either_meant (bits 1 2 1 cdb == 0) _ _ refl (either_meant (bits 1 2 1 cdb == 1) _ _ refl refl)

all_known : (profile : Profile) (cdb : List ℕ) → list_all (λ row. is_known (row.meaning cdb)) (rows profile) ≡ true
all_known Narrow cdb = refl
all_known Wide cdb =
    both _ _ (verified_known (number 2 5 cdb) (number 7 8 cdb) cdb)
    (both _ _ (verified_known (number 2 9 cdb) (number 10 13 cdb) cdb)
    (both _ _ (either_meant (bit 1 0 cdb) _ _ refl refl)
    (both _ _ (either_meant (bits 1 4 0 cdb == 0x10) _ _ refl refl)
    (both _ _ (either_meant (bits 1 4 0 cdb == 0x0c) _ _ refl refl)
    (both _ _ (verified_known (number 2 5 cdb) (number 6 9 cdb) cdb) refl)))))

pub known : (profile : Profile) (cdb : List ℕ) → is_profiled profile (byte 0 cdb) ≡ true → command profile cdb ≢ Unknown
known profile cdb h is_unknown =
    let f = row_at profile (byte 0 cdb) h in
    let by_row : command profile cdb ≡ command_by (Some f.item) cdb = by_found profile cdb f in
    let meant : is_known (f.item.meaning cdb) ≡ true = f.has (λ row. is_known (row.meaning cdb)) (all_known profile cdb) in
    let either : is_known (command_by (Some f.item) cdb) ≡ true =
    either_known (any (naca f.item cdb ∷ f.item.causes cdb)) f.item.opcode (f.item.meaning cdb) meant in
    let impossible : false ≡ true = ap is_known (sym is_unknown ∙ by_row) ∙ either in
    cc

bad_by : (cdb : List ℕ) (row : Row) (b : Bool) → b ≡ true → (rest : Bool) →
    (if b || rest then Bad row.opcode else row.meaning cdb) ≡ Bad row.opcode
bad_by cdb row true h rest = refl
bad_by cdb row false h rest = cc

all_placed : (profile : Profile) → list_all (λ row. control_of row.opcode == row.control) (rows profile) ≡ true
all_placed Narrow = refl
all_placed Wide = refl

pub refused : (profile : Profile) (cdb : List ℕ) → is_profiled profile (byte 0 cdb) ≡ true →
    bit (control_of (byte 0 cdb)) 2 cdb ≡ true → command profile cdb ≡ Bad (byte 0 cdb)
refused profile cdb h is_naca =
    let f = row_at profile (byte 0 cdb) h in
    let by_row : command profile cdb ≡ command_by (Some f.item) cdb = by_found profile cdb f in
    let at_opcode : f.item.opcode ≡ byte 0 cdb = eqb-true f.item.opcode (byte 0 cdb) f.passes in
    let at_control : control_of f.item.opcode ≡ f.item.control =
    eqb-true _ _ (f.has (λ row. control_of row.opcode == row.control) (all_placed profile)) in
    let index : control_of (byte 0 cdb) ≡ f.item.control = sym (ap control_of at_opcode) ∙ at_control in
    let set : naca f.item cdb ≡ true = subst (λ (i : ℕ). bit i 2 cdb ≡ true) index is_naca in
    by_row ∙ bad_by cdb f.item (naca f.item cdb) set (any (f.item.causes cdb)) ∙ ap (λ opcode. Bad opcode) at_opcode

-- what the row of READ (10) makes of its fields
read_10 : (naca : Bool) (protect lba length : ℕ) → Command
read_10 naca protect lba length =
    if naca || (is_set protect || (is_over 2048 length || false)) then Bad 0x28
    else Read lba length

by_read_10 : (profile : Profile) (cdb : List ℕ) → byte 0 cdb ≡ 0x28 →
    command profile cdb ≡ read_10 (bit 9 2 cdb) (bits 1 7 5 cdb) (number 2 5 cdb) (number 7 8 cdb)
unfolding command read_10
by_read_10 Narrow cdb is_read = ap (λ x. command_by (row_of Narrow x) cdb) is_read
by_read_10 Wide cdb is_read = ap (λ x. command_by (row_of Wide x) cdb) is_read

pub alike : (profile : Profile) (a b : List ℕ) → byte 0 a ≡ 0x28 → byte 0 b ≡ 0x28 → bits 1 7 5 a ≡ bits 1 7 5 b →
    number 2 5 a ≡ number 2 5 b → number 7 8 a ≡ number 7 8 b → bit 9 2 a ≡ bit 9 2 b →
    command profile a ≡ command profile b
alike profile a b read_a read_b same_protect same_lba same_length same_naca =
    cc (by_read_10 profile a read_a, by_read_10 profile b read_b)
