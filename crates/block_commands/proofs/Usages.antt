-- The opcodes that a unit tells of.
use Rattle.std.proofs.Common.{arith, ◌≢◌, ◌≡◌, ℕ, Bool, true, false, ◌||◌, ◌&&◌, Option, Some, None, List, [], ◌∷◌, ◌++◌, refl, sym, ap, ◌∙◌, subst, cond}
use Rattle.std.specs.Prelude.{◌==◌, is_some, option_map, map}
use Rattle.std.specs.List.{find, list_any, list_all}
use Rattle.std.proofs.lemmas.Bool.{eqb-true}
use Rattle.std.proofs.lemmas.List.Folds.{list_any-append}
use Rattle.cdb.specs.Opcodes.{is_profiled, opcodes}
use Rattle.cdb.specs.declared.profile.Profile.TheVariants.{Wide}
use Rattle.std.proofs.lemmas.Bool.Decides.{nat_tests}
use Rattle.cdb.specs.Usage.{Field, plain_commands}
use Rattle.command_model.specs.Codes.{plain_usage, usage_data, has_actions, is_told}

-- an opcode that is none of these has none
pub plain_none : (x : ℕ) →
    x ≢ 0x00 → x ≢ 0x03 → x ≢ 0x04 → x ≢ 0x08 → x ≢ 0x0a → x ≢ 0x12 → x ≢ 0x15 → x ≢ 0x1a → x ≢ 0x1b → x ≢ 0x1d → x ≢ 0x1e → x ≢ 0x25 → x ≢ 0x28 → x ≢ 0x2a → x ≢ 0x2e → x ≢ 0x2f → x ≢ 0x34 → x ≢ 0x35 → x ≢ 0x37 → x ≢ 0x41 → x ≢ 0x42 → x ≢ 0x55 → x ≢ 0x5a → x ≢ 0x88 → x ≢ 0x89 → x ≢ 0x8a → x ≢ 0x8b → x ≢ 0x8e → x ≢ 0x8f → x ≢ 0x90 → x ≢ 0x91 → x ≢ 0x93 → x ≢ 0xa0 → x ≢ 0xa8 → x ≢ 0xaa → x ≢ 0xae → x ≢ 0xaf → x ≢ 0xb7 → None ≡ plain_usage x
unfolding plain_usage
plain_none x a0 a1 a2 a3 a4 a5 a6 a7 a8 a9 a10 a11 a12 a13 a14 a15 a16 a17 a18 a19 a20 a21 a22 a23 a24 a25 a26 a27 a28 a29 a30 a31 a32 a33 a34 a35 a36 a37 = grind (arith, nat_tests)

some_found : {A B : Type 0} (f : A → B) (p : A → Bool) (xs : List A) → is_some (option_map f (find p xs)) ≡ list_any p xs
some_found f p [] = refl
some_found f p (x ∷ xs) =
    elim (p x) as (λ b. is_some (option_map f (cond b (Some x) (find p xs))) ≡ (b || list_any p xs)) [
      | true ↦ refl
      | false ↦ some_found f p xs
    ]

-- an item of a list whose items all stand in another stands there
within : (xs ys : List ℕ) → list_all (λ y. list_any (λ k. k == y) ys) xs ≡ true → (x : ℕ) → list_any (λ k. k == x) xs ≡ true →
    list_any (λ k. k == x) ys ≡ true
within [] ys all x some = absurd (cc)
within (z ∷ zs) ys all x some =
    (elim (z == x) as (λ b. (z == x) ≡ b → (b || list_any (λ k. k == x) zs) ≡ true → list_any (λ k. k == x) ys ≡ true) [
      | true ↦ λ e _. subst (λ y. list_any (λ k. k == y) ys ≡ true) (eqb-true z x e) (left _ _ all)
      | false ↦ λ e later. within zs ys (right _ _ all) x later
    ]) refl some
  where
    left : (a b : Bool) → (a && b) ≡ true → a ≡ true
    left true b h = refl
    left false b h = h

    right : (a b : Bool) → (a && b) ≡ true → b ≡ true
    right true b h = h
    right false b h = absurd (cc)

both_ways : (a b : Bool) → (a ≡ true → b ≡ true) → (b ≡ true → a ≡ true) → a ≡ b
both_ways true b there back = sym (there refl)
both_ways false true there back = back refl
both_ways false false there back = refl

abbrev told_codes : List ℕ
told_codes = map (λ c. c.0) plain_commands ++ (0x9e ∷ 0xa3 ∷ [])

told_is : (x : ℕ) → is_told x ≡ list_any (λ k. k == x) told_codes
unfolding plain_usage
told_is x =
    ap (λ b. b || has_actions x) (some_found (λ (c : ℕ × List Field × List Field). usage_data c.0 0 (c.1 ++ c.2)) (λ c. c.0 == x) plain_commands)
    ∙ sym (list_any-append (λ k. k == x) (map (λ (c : ℕ × List Field × List Field). c.0) plain_commands) (0x9e ∷ 0xa3 ∷ []))

pub told_profiled : (x : ℕ) → is_told x ≡ is_profiled Wide x
told_profiled x =
    told_is x ∙ both_ways _ _ (within told_codes (opcodes Wide) refl x) (within (opcodes Wide) told_codes refl x)
