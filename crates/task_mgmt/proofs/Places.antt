-- The indexes of a target's units, found from the first unit on.
use Rattle.std.proofs.Common.{◌≡◌, ℕ, zero, suc, Bool, true, false, cond, ◌+◌, ◌<◌, ◌≤◌, ◌==◌, List, [], ◌∷◌, ◌++◌, length, filter, get_or, slice_get, refl, sym, ap, ◌∙◌, arith}
use Rattle.std.specs.List.{range_with_len}
use Rattle.std.proofs.lemmas.List.Elements.{filter-append}
use Rattle.std.proofs.lemmas.List.{append-nil}
use Rattle.std.proofs.lemmas.Bool.Decides.{nat_tests}
use Rattle.scsi_codec.specs.declared.lun.Address.{Address}
use Rattle.task_mgmt.specs.Demands.{is_of_target}

-- those among the first n
abbrev pub places_below : List Address → ℕ → ℕ → List ℕ
places_below units target n = filter (λ unit_index. is_of_target target (slice_get units unit_index)) (range_with_len 0 n)

range_more : (a n j : ℕ) → a + n ≡ j → range_with_len a (n + 1) ≡ range_with_len a n ++ j ∷ []
range_more a zero j e = grind arith
range_more a (suc n) j e = grind (arith, range_more (a + 1) n j (omega arith))

abbrev one_if : Bool → ℕ → List ℕ
one_if b n = cond b (n ∷ []) []

one_passes : (p : ℕ → Bool) (n : ℕ) → filter p (n ∷ []) ≡ one_if (p n) n
one_passes p n = grind arith

pub places_more : (units : List Address) (target n : ℕ)
    → places_below units target (n + 1) ≡ places_below units target n ++ one_if (is_of_target target (slice_get units n)) n
places_more units target n =
    let p : ℕ → Bool = λ unit_index. is_of_target target (slice_get units unit_index) in
    ap (filter p) (range_more 0 n n (omega arith))
    ∙ filter-append p (range_with_len 0 n) (n ∷ [])
    ∙ ap (λ w. filter p (range_with_len 0 n) ++ w) (one_passes p n)

of_target_at : (units : List Address) (target n : ℕ) (d : Address) → n < length units
    → is_of_target target (slice_get units n) ≡ ((get_or units n d).target == target)
of_target_at [] target n d h = absurd (omega arith)
of_target_at (a ∷ units) target zero d h = refl
of_target_at (a ∷ units) target (suc n) d h = of_target_at units target n d (omega arith)

-- one more is found
pub found_one : (units : List Address) (target n : ℕ) (d : Address) (indexes : List ℕ) → n < length units
    → indexes ≡ places_below units target n → (get_or units n d).target ≡ target
    → indexes ++ n ∷ [] ≡ places_below units target (n + 1)
found_one units target n d indexes h is test =
    let of_target : is_of_target target (slice_get units n) ≡ true = of_target_at units target n d h ∙ grind (arith, nat_tests) in
    ap (λ w. w ++ n ∷ []) is
    ∙ ap (λ w. places_below units target n ++ one_if w n) (sym of_target)
    ∙ sym (places_more units target n)

-- one more is of another target
pub found_none : (units : List Address) (target n : ℕ) (d : Address) (indexes : List ℕ) → n < length units
    → indexes ≡ places_below units target n → ¬ ((get_or units n d).target ≡ target)
    → indexes ≡ places_below units target (n + 1)
found_none units target n d indexes h is test =
    let other : is_of_target target (slice_get units n) ≡ false = of_target_at units target n d h ∙ grind (arith, nat_tests) in
    is
    ∙ sym (append-nil (places_below units target n))
    ∙ ap (λ w. places_below units target n ++ one_if w n) (sym other)
    ∙ sym (places_more units target n)

few_pass : (p : ℕ → Bool) (xs : List ℕ) → length (filter p xs) ≤ length xs
few_pass p [] = omega arith
few_pass p (x ∷ xs) = grind (arith, few_pass p xs)

length_range : (a n : ℕ) → length (range_with_len a n) ≡ n
length_range a zero = refl
length_range a (suc n) = ap suc (length_range (a + 1) n)

pub places_few : (units : List Address) (target n : ℕ) → length (places_below units target n) ≤ n
places_few units target n =
    let few = few_pass (λ unit_index. is_of_target target (slice_get units unit_index)) (range_with_len 0 n) in
    let all = length_range 0 n in
    omega (arith, few, all)
