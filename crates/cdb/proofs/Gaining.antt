-- The commands of the narrow profile in the wide one.
use Rattle.std.proofs.Common.{arith, ◌≡◌, ◌≢◌, ℕ, ◌==◌, List, [], ◌∷◌, Bool, true, false, ◌||◌, ◌&&◌, not, if◌then◌else◌, None, refl, sym, ap, ◌∙◌, subst}
use Rattle.std.specs.List.{list_any}
use Rattle.std.specs.Prelude.{is_none}
use Rattle.std.proofs.lemmas.Bool.{eqb-true}
use Rattle.std.proofs.lemmas.Bool.Decides.{nat_tests}
use Rattle.cdb.specs.Fields.{byte, bit, bits, number, is_set, is_over}
use Rattle.cdb.specs.Profile.{page_of, data_asked, protect, same_row}
use Rattle.cdb.specs.Profiles.{is_gained}
use Rattle.cdb.specs.Opcodes.{is_profiled, narrow_opcodes}
use Rattle.cdb.specs.Usage.{OfEach}
use Rattle.cdb.specs.Decoding.{any, row_of, command_by, command}
use Rattle.cdb.proofs.Profiled.{unknown}
use Rattle.cdb.specs.declared.profile.Profile.{Profile}
use Rattle.cdb.specs.declared.profile.Profile.TheVariants.{Narrow, Wide}
use Rattle.cdb.specs.declared.commands.Command.{Command}
use Rattle.cdb.specs.declared.commands.Command.TheVariants.{Bad, Inquiry, Unknown}

-- an opcode of a list has what each opcode of the list has
of_each : (P : ℕ → Type 0) (ks : List ℕ) → OfEach P ks → (x : ℕ) → list_any (λ k. k == x) ks ≡ true → P x
of_each P [] all x some = absurd (cc)
of_each P (k ∷ ks) all x some =
    (elim (k == x) as (λ b. (k == x) ≡ b → (b || list_any (λ k. k == x) ks) ≡ true → P x) [
      | true ↦ λ is _. subst P (eqb-true k x is) all.0
      | false ↦ λ is later. of_each P ks all.1 x later
    ]) refl some

-- what is gained, by opcode, byte 2, bit 0 of byte 1 and service action
abbrev gained_by : ℕ → ℕ → Bool → ℕ → Bool
gained_by x code first action =
    any
    ((x == 0x03 && first)
    ∷ (x == 0x12 && (first && (code == 0x86 || code == 0xb1)))
    ∷ (x == 0x93 && first)
    ∷ (x == 0x9e && action == 0x12)
    ∷ [])

gained_at : (cdb : List ℕ) (k : ℕ) → byte 0 cdb ≡ k → is_gained cdb ≡ false →
    gained_by k (byte 2 cdb) (bit 1 0 cdb) (bits 1 4 0 cdb) ≡ false
gained_at cdb k at h = subst (λ x. gained_by x (byte 2 cdb) (bit 1 0 cdb) (bits 1 4 0 cdb) ≡ false) at h

by_opcode : (profile : Profile) (cdb : List ℕ) (k : ℕ) → byte 0 cdb ≡ k → command profile cdb ≡ command_by (row_of profile k) cdb
unfolding command
by_opcode profile cdb k at = ap (λ x. command_by (row_of profile x) cdb) at

-- a CDB of this opcode that isn't gained is decoded alike
abbrev Alike : ℕ → Type 0
Alike x = (cdb : List ℕ) → byte 0 cdb ≡ x → is_gained cdb ≡ false → command Wide cdb ≡ command Narrow cdb

by_rows : (cdb : List ℕ) (k : ℕ) → byte 0 cdb ≡ k → command_by (row_of Wide k) cdb ≡ command_by (row_of Narrow k) cdb →
    command Wide cdb ≡ command Narrow cdb
by_rows cdb k at same = by_opcode Wide cdb k at ∙ same ∙ sym (by_opcode Narrow cdb k at)

plain : (k : ℕ) → row_of Wide k ≡ row_of Narrow k → Alike k
plain k same cdb at h = by_rows cdb k at (ap (λ row. command_by row cdb) same)

no_sense_bit : (first : Bool) (code action : ℕ) → gained_by 0x03 code first action ≡ false → first ≡ false
no_sense_bit false code action h = refl
no_sense_bit true code action h = h

no_data_bit : (first : Bool) (code action : ℕ) → gained_by 0x93 code first action ≡ false → first ≡ false
no_data_bit false code action h = refl
no_data_bit true code action h = h

sense : Alike 0x03
sense cdb at h =
    let first : bit 1 0 cdb ≡ false = no_sense_bit (bit 1 0 cdb) (byte 2 cdb) (bits 1 4 0 cdb) (gained_at cdb 0x03 at h) in
    by_rows cdb 0x03 at (rw first refl)

same : Alike 0x93
same cdb at h =
    let first : bit 1 0 cdb ≡ false = no_data_bit (bit 1 0 cdb) (byte 2 cdb) (bits 1 4 0 cdb) (gained_at cdb 0x93 at h) in
    by_rows cdb 0x93 at (rw first refl)

other_action : (action : ℕ) (code : ℕ) (first : Bool) → gained_by 0x9e code first action ≡ false → (action == 0x12) ≡ false
other_action action code first h = either (action == 0x12) h
  where
    either : (b : Bool) → (b || false) ≡ false → b ≡ false
    either false h = refl
    either true h = h

by_action : (naca capacity : Bool) (bad meaning other : Command) →
    (if naca || (not (capacity || false) || false) then bad else (if capacity then meaning else other))
    ≡ (if naca || (not capacity || false) then bad else meaning)
by_action true capacity bad meaning other = refl
by_action false true bad meaning other = refl
by_action false false bad meaning other = refl

service : Alike 0x9e
service cdb at h =
    let action : (bits 1 4 0 cdb == 0x12) ≡ false =
    other_action (bits 1 4 0 cdb) (byte 2 cdb) (bit 1 0 cdb) (gained_at cdb 0x9e at h) in
    by_rows cdb 0x9e at (rw action (by_action (bit 15 2 cdb) (bits 1 4 0 cdb == 0x10) _ _ _))

pages_alike : (code : ℕ) → (code == 0x86) ≡ false → (code == 0xb1) ≡ false → page_of Wide code ≡ page_of Narrow code
pages_alike code a b = grind (arith, nat_tests)

either_false : (a b : Bool) → (a || b) ≡ false → (a ≡ false) × (b ≡ false)
either_false true b h = absurd (cc)
either_false false b h = (refl, h)

inquired : Profile → Bool → Bool → ℕ → ℕ → Command
inquired profile naca first code n =
    if naca || ((not first && is_set code) || (is_none (page_of profile code) || false)) then Bad 0x12
    else Inquiry (data_asked profile first code) n

inquired_alike : (naca first : Bool) (code n action : ℕ) → gained_by 0x12 code first action ≡ false →
    inquired Wide naca first code n ≡ inquired Narrow naca first code n
unfolding inquired
inquired_alike naca true code n action h =
    let tests = either_false (code == 0x86) (code == 0xb1) (either_false (code == 0x86 || code == 0xb1) _ h).0 in
    rw (pages_alike code tests.0 tests.1) refl
inquired_alike naca false code n action h =
    (elim (code == 0) as (λ b. (code == 0) ≡ b → inquired Wide naca false code n ≡ inquired Narrow naca false code n) [
      | true ↦ λ is. rw (eqb-true code 0 is) refl
      | false ↦ λ is. rw is (bad_each naca _ _)
    ]) refl
  where
    bad_each : (naca : Bool) (x y : Command) → (if naca || true then Bad 0x12 else x) ≡ (if naca || true then Bad 0x12 else y)
    bad_each true x y = refl
    bad_each false x y = refl

inquiry : Alike 0x12
unfolding inquired
inquiry cdb at h =
    by_rows cdb 0x12 at
    (inquired_alike (bit 5 2 cdb) (bit 1 0 cdb) (byte 2 cdb) (number 3 4 cdb) (bits 1 4 0 cdb) (gained_at cdb 0x12 at h))

pub alike : (cdb : List ℕ) → is_profiled Narrow (byte 0 cdb) ≡ true → is_gained cdb ≡ false → command Wide cdb ≡ command Narrow cdb
alike cdb profiled h =
    of_each Alike narrow_opcodes (
      plain 0x00 refl,
      (
        sense,
        (
          plain 0x08 refl,
          (
            plain 0x0a refl,
            (
              inquiry,
              (
                plain 0x25 refl,
                (
                  plain 0x28 refl,
                  (
                    plain 0x2a refl,
                    (
                      plain 0x35 refl,
                      (
                        plain 0x41 refl,
                        (
                          plain 0x42 refl,
                          (
                            plain 0x88 refl,
                            (
                              plain 0x89 refl,
                              (
                                plain 0x8a refl,
                                (
                                  plain 0x91 refl,
                                  (
                                    same,
                                    (
                                      service,
                                      (plain 0xa0 refl, (plain 0xa8 refl, (plain 0xaa refl, tt))),
                                    ),
                                  ),
                                ),
                              ),
                            ),
                          ),
                        ),
                      ),
                    ),
                  ),
                ),
              ),
            ),
          ),
        ),
      ),
    )
    (byte 0 cdb) profiled cdb refl h

-- what is gained is refused

left : (a b : Bool) → (a && b) ≡ true → a ≡ true
left true b h = refl
left false b h = h

right : (a b : Bool) → (a && b) ≡ true → b ≡ true
right true b h = h
right false b h = absurd (cc)

either : {P : Type 0} (a b : Bool) → (a || b) ≡ true → (a ≡ true → P) → (b ≡ true → P) → P
either true b h first second = first refl
either false b h first second = second h

refused : (cdb : List ℕ) (k : ℕ) → byte 0 cdb ≡ k → command_by (row_of Narrow k) cdb ≡ Bad k → command Narrow cdb ≡ Bad (byte 0 cdb)
refused cdb k at is_bad = by_opcode Narrow cdb k at ∙ is_bad ∙ ap (λ opcode. Bad opcode) (sym at)

bad_or : (naca : Bool) (x y : Command) → (if naca || true then x else y) ≡ x
bad_or true x y = refl
bad_or false x y = refl

refused_sense : (cdb : List ℕ) → byte 0 cdb ≡ 0x03 → bit 1 0 cdb ≡ true → command Narrow cdb ≡ Bad (byte 0 cdb)
refused_sense cdb at first = refused cdb 0x03 at (rw first (bad_or (bit 5 2 cdb) _ _))

refused_page : (cdb : List ℕ) → byte 0 cdb ≡ 0x12 → page_of Narrow (byte 2 cdb) ≡ None → command Narrow cdb ≡ Bad (byte 0 cdb)
refused_page cdb at lacks = refused cdb 0x12 at (rw lacks (bad_last (bit 5 2 cdb) _ _ _))
  where
    bad_last : (naca b : Bool) (x y : Command) → (if naca || (b || true) then x else y) ≡ x
    bad_last true b x y = refl
    bad_last false true x y = refl
    bad_last false false x y = refl

refused_same : (cdb : List ℕ) → byte 0 cdb ≡ 0x93 → bit 1 0 cdb ≡ true → command Narrow cdb ≡ Bad (byte 0 cdb)
refused_same cdb at first = refused cdb 0x93 at (rw first (bad_fifth (bit 15 2 cdb) (protect cdb) (bit 1 4 cdb) (is_set (bits 1 2 1 cdb)) ((number 10 13 cdb == 0) || (is_over 65536 (number 10 13 cdb) || false)) _ (same_row.meaning cdb)))
  where
    bad_fifth : (a b c d e : Bool) (x y : Command) → (if a || (b || (c || (d || (true || e)))) then x else y) ≡ x
    bad_fifth true b c d e x y = refl
    bad_fifth false true c d e x y = refl
    bad_fifth false false true d e x y = refl
    bad_fifth false false false true e x y = refl
    bad_fifth false false false false e x y = refl

refused_action : (cdb : List ℕ) → byte 0 cdb ≡ 0x9e → bits 1 4 0 cdb ≡ 0x12 → command Narrow cdb ≡ Bad (byte 0 cdb)
refused_action cdb at action = refused cdb 0x9e at (rw action (bad_or (bit 15 2 cdb) _ _))

pub gained : (cdb : List ℕ) → is_gained cdb ≡ true → command Narrow cdb ≡ Bad (byte 0 cdb)
gained cdb h =
    let x = byte 0 cdb in
    let code = byte 2 cdb in
    let first = bit 1 0 cdb in
    let action = bits 1 4 0 cdb in
    either (x == 0x03 && first) _ h
    (λ is. refused_sense cdb (eqb-true x 0x03 (left (x == 0x03) first is)) (right (x == 0x03) first is))
    (λ h. either (x == 0x12 && (first && (code == 0x86 || code == 0xb1))) _ h
    (λ is. let pages = right first _ (right (x == 0x12) _ is) in
    let at = eqb-true x 0x12 (left (x == 0x12) _ is) in
    either (code == 0x86) (code == 0xb1) pages
    (λ page. refused_page cdb at (ap (page_of Narrow) (eqb-true code 0x86 page)))
    (λ page. refused_page cdb at (ap (page_of Narrow) (eqb-true code 0xb1 page))))
    (λ h. either (x == 0x93 && first) _ h
    (λ is. refused_same cdb (eqb-true x 0x93 (left (x == 0x93) first is)) (right (x == 0x93) first is))
    (λ h. either (x == 0x9e && action == 0x12) false h
    (λ is. refused_action cdb (eqb-true x 0x9e (left (x == 0x9e) _ is)) (eqb-true action 0x12 (right (x == 0x9e) _ is)))
    (λ h. absurd (cc)))))

pub good : (cdb : List ℕ) → command Narrow cdb ≢ Unknown → command Narrow cdb ≢ Bad (byte 0 cdb) → command Wide cdb ≡ command Narrow cdb
good cdb is_known is_good =
    (elim (is_profiled Narrow (byte 0 cdb)) as (λ b. is_profiled Narrow (byte 0 cdb) ≡ b → command Wide cdb ≡ command Narrow cdb) [
      | true ↦ λ profiled.
          (elim (is_gained cdb) as (λ b. is_gained cdb ≡ b → command Wide cdb ≡ command Narrow cdb) [
            | true ↦ λ is. absurd (is_good (gained cdb is))
            | false ↦ λ is. alike cdb profiled is
          ]) refl
      | false ↦ λ other. absurd (is_known (unknown Narrow cdb other))
    ]) refl
