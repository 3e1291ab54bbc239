-- What follows from the two forms in which eight bytes name a unit.
use Rattle.std.proofs.Common.{rules, ◌≡◌, ℕ, zero, suc, ◌+◌, ◌*◌, ◌-◌, ◌/◌, ◌%◌, ◌<◌, ◌≤◌, ◌⊎◌, inl, inr, List, [], ◌∷◌, length, slice_index, slice_range, take, drop, replicate, Option, Some, None, refl, ap, subst, sym, arith}
use Rattle.std.proofs.lemmas.Grind.{common_steps}
use Rattle.std.proofs.lemmas.Bool.{cases_eq, cases_lt}
use Rattle.std.proofs.lemmas.List.{get_or-drop}
use Rattle.scsi_codec.specs.Lun.{IsAddress, ReadsAddress, AreBytes, HasReadableForm, first_form, second_form, written_address}
use Rattle.scsi_codec.specs.declared.lun.Address.{Address}

pub one_unit : (bytes : List ℕ) (a b : Address) → IsAddress bytes a → IsAddress bytes b → a ≡ b
one_unit bytes a b p q = grind (arith, common_steps)

pub reads_once : (bytes : List ℕ) (x y : Option Address) → ReadsAddress bytes x → ReadsAddress bytes y → x ≡ y
reads_once bytes (Some a) (Some b) p q = ap Some (one_unit bytes a b p q)
reads_once bytes (Some a) None p q = absurd (q a p)
reads_once bytes None (Some b) p q = absurd (p b q)
reads_once bytes None None p q = refl

pub written_is_address : (a : Address) → a.lun < 16384 → IsAddress (written_address a) a
written_is_address a h = search rules

-- eight bytes, one by one
eight : (xs : List ℕ) → length xs ≡ 8
    → xs ≡ slice_index xs 0 ∷ slice_index xs 1 ∷ slice_index xs 2 ∷ slice_index xs 3 ∷ slice_index xs 4 ∷ slice_index xs 5 ∷ slice_index xs 6 ∷ slice_index xs 7 ∷ []
eight (a ∷ b ∷ c ∷ d ∷ e ∷ f ∷ g ∷ h ∷ []) e8 = refl
eight _ e8 = absurd (omega arith)

-- the unit that bytes of either form name
pub unit_of_form : (bytes : List ℕ) → AreBytes bytes → HasReadableForm bytes → (a : Address) × IsAddress bytes a
unit_of_form bytes are form =
    let whole = eight bytes form.eight in
    let b3 = are 3 in
    let z4 = form.four_zeros 4 (omega arith) (omega arith) in
    let z5 = form.four_zeros 5 (omega arith) (omega arith) in
    let z6 = form.four_zeros 6 (omega arith) (omega arith) in
    let z7 = form.four_zeros 7 (omega arith) (omega arith) in
    elim form.method [
      | inl peripheral ↦
          let a : Address = record { target = slice_index bytes 1; lun = slice_index bytes 3 } in
          let same : bytes ≡ first_form a = cc in
          (a, inl (b3, same))
      | inr flat ↦
          let a : Address = record { target = slice_index bytes 1; lun = 256 * (slice_index bytes 2 - 64) + slice_index bytes 3 } in
          let small : a.lun < 16384 = omega arith in
          let high : slice_index bytes 2 ≡ 64 + a.lun / 256 = omega arith in
          let low : slice_index bytes 3 ≡ a.lun % 256 = omega arith in
          let same : bytes ≡ second_form a = cc in
          (a, inr (small, same))
    ]

zeros_at : (n k : ℕ) → slice_index (replicate n 0) k ≡ 0
zeros_at zero k = refl
zeros_at (suc n) zero = refl
zeros_at (suc n) (suc k) = zeros_at n k

zeros_past : (a b c d k : ℕ) → 4 ≤ k → slice_index (a ∷ b ∷ c ∷ d ∷ 0 ∷ 0 ∷ 0 ∷ 0 ∷ []) k ≡ 0
zeros_past a b c d (suc (suc (suc (suc k)))) h = zeros_at 4 k
zeros_past a b c d _ h = absurd (omega arith)

form_of_first : (a : Address) → HasReadableForm (first_form a)
form_of_first a = record {
  eight = refl;
  single_level = refl;
  method = inl refl;
  four_zeros = λ k h _. zeros_past 1 a.target 0 a.lun k h;
}

form_of_second : (a : Address) → a.lun < 16384 → HasReadableForm (second_form a)
form_of_second a h = record {
  eight = refl;
  single_level = refl;
  method = inr (omega arith, omega arith);
  four_zeros = λ k h _. zeros_past 1 a.target (64 + a.lun / 256) (a.lun % 256) k h;
}

-- the form of the bytes that name a unit
pub form_of_unit : (bytes : List ℕ) → ((a : Address) × IsAddress bytes a) → HasReadableForm bytes
form_of_unit bytes (a, inl (small, same)) = subst HasReadableForm (sym same) (form_of_first a)
form_of_unit bytes (a, inr (small, same)) = subst HasReadableForm (sym same) (form_of_second a small)

-- a fact holds or doesn't
abbrev Decided : Type 0 → Type 0
Decided A = A ⊎ (¬ A)

decided_eq : (a b : ℕ) → Decided (a ≡ b)
decided_eq a b = cases_eq a b

decided_both : {A B : Type 0} → Decided A → Decided B → Decided (A × B)
decided_both (inl a) (inl b) = inl (a, b)
decided_both (inl a) (inr fails) = inr (λ (p : _ × _). fails p.1)
decided_both (inr fails) d = inr (λ (p : _ × _). fails p.0)

decided_along : {A B : Type 0} → (A → B) → (B → A) → Decided A → Decided B
decided_along to from (inl a) = inl (to a)
decided_along to from (inr fails) = inr (λ b. fails (from b))

abbrev IsMethod : ℕ → Type 0
IsMethod high = (high ≡ 0x00) ⊎ ((0x40 ≤ high) × (high ≤ 0x7f))

decided_method : (high : ℕ) → Decided (IsMethod high)
decided_method high = elim (cases_eq high 0) [
  | inl first ↦ inl (inl first)
  | inr other ↦ elim (cases_lt high 0x40) [
    | inl low ↦ inr (λ (m : IsMethod high). grind arith)
    | inr from ↦ elim (cases_lt high 0x80) [
      | inl flat ↦ inl (inr (from, omega arith))
      | inr past ↦ inr (λ (m : IsMethod high). grind arith)
    ]
  ]
]

abbrev FormParts : List ℕ → Type 0
FormParts xs =
    (length xs ≡ 8) × ((slice_index xs 0 ≡ 1) × (IsMethod (slice_index xs 2)
    × ((slice_index xs 4 ≡ 0) × ((slice_index xs 5 ≡ 0) × ((slice_index xs 6 ≡ 0) × (slice_index xs 7 ≡ 0))))))

four_places : (xs : List ℕ) → slice_index xs 4 ≡ 0 → slice_index xs 5 ≡ 0 → slice_index xs 6 ≡ 0 → slice_index xs 7 ≡ 0
    → (k : ℕ) → 4 ≤ k → k < 8 → slice_index xs k ≡ 0
four_places xs a b c d (suc (suc (suc (suc zero)))) l h = a
four_places xs a b c d (suc (suc (suc (suc (suc zero))))) l h = b
four_places xs a b c d (suc (suc (suc (suc (suc (suc zero)))))) l h = c
four_places xs a b c d (suc (suc (suc (suc (suc (suc (suc zero))))))) l h = d
four_places xs a b c d k l h = absurd (omega arith)

decided_form : (xs : List ℕ) → Decided (HasReadableForm xs)
decided_form xs =
    decided_along {A = FormParts xs}
    (λ (p : FormParts xs). record {
      eight = p.0;
      single_level = p.1.0;
      method = p.1.1.0;
      four_zeros = four_places xs p.1.1.1.0 p.1.1.1.1.0 p.1.1.1.1.1.0 p.1.1.1.1.1.1;
    })
    (λ (f : HasReadableForm xs). (
      f.eight,
      (
        f.single_level,
        (
          f.method,
          (
            f.four_zeros 4 (omega arith) (omega arith),
            (
              f.four_zeros 5 (omega arith) (omega arith),
              (f.four_zeros 6 (omega arith) (omega arith), f.four_zeros 7 (omega arith) (omega arith)),
            ),
          ),
        ),
      ),
    ))
    (decided_both (decided_eq (length xs) 8) (decided_both (decided_eq (slice_index xs 0) 1)
    (decided_both (decided_method (slice_index xs 2)) (decided_both (decided_eq (slice_index xs 4) 0)
    (decided_both (decided_eq (slice_index xs 5) 0) (decided_both (decided_eq (slice_index xs 6) 0)
    (decided_eq (slice_index xs 7) 0)))))))

-- bytes read as a unit or as none
pub some_unit : (bytes : List ℕ) → AreBytes bytes → (x : Option Address) × ReadsAddress bytes x
some_unit bytes are = elim (decided_form bytes) [
  | inl form ↦ let unit : (a : Address) × IsAddress bytes a = unit_of_form bytes are form in (Some unit.0, unit.1)
  | inr fails ↦ (None, λ a is. fails (form_of_unit bytes (a, is)))
]

bytes_of_front : (n : ℕ) (xs : List ℕ) → AreBytes xs → AreBytes (take n xs)
bytes_of_front zero xs are k = omega arith
bytes_of_front (suc n) [] are k = omega arith
bytes_of_front (suc n) (x ∷ xs) are zero = are 0
bytes_of_front (suc n) (x ∷ xs) are (suc k) = bytes_of_front n xs (λ j. are (suc j)) k

-- a slice of bytes is bytes
pub bytes_of_slice : (bytes : List ℕ) (from to : ℕ) → AreBytes bytes → AreBytes (slice_range bytes from to)
bytes_of_slice bytes from to are =
    bytes_of_front (to - from) (drop from bytes) (λ k. rw (get_or-drop from bytes k 0) (are (from + k)))
