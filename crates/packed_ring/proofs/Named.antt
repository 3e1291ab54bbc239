-- Whether one of some slots is named, by arithmetic in place of a look at each.
use Rattle.std.proofs.Common.{◌≡◌, ℕ, zero, suc, ◌+◌, ◌-◌, ◌*◌, ◌%◌, ◌/◌, ◌<◌, ◌≤◌, Bool, true, false, cond, not, nat_lt, nat_le, ◌==◌, ◌&&◌, ◌||◌, refl, sym, ap, ◌∙◌, arith, ◌⊎◌, inl, inr, div-add-mod', mod-lt}
use Rattle.std.proofs.lemmas.Grind.{common_steps}
use Rattle.std.proofs.lemmas.Bool.Decides.{nat_tests}
use Rattle.std.proofs.lemmas.Nat.{div-mul-add, mod-mul-add}
use Rattle.ring_core.specs.Packed.{wrap_counter, is_named, names_one}

-- no slot is named, or one alone
module _ (size offset_wrap t : ℕ) where
  none_named : (n : ℕ) → ((k : ℕ) → k < n → is_named size offset_wrap (t + k) ≡ false) → names_one size offset_wrap t n ≡ false
  unfolding names_one
  none_named zero none = refl
  none_named (suc n) none = rw (none_named n (λ k lt. none k (omega arith)), none n (omega arith)) refl

  one_named : (at n : ℕ) → ((k : ℕ) → k < n → is_named size offset_wrap (t + k) ≡ (k == at)) → names_one size offset_wrap t n ≡ nat_lt at n
  unfolding names_one
  one_named at zero each = sym (nothing_below at)
    where
      nothing_below : (at : ℕ) → nat_lt at 0 ≡ false
      nothing_below at = grind (arith, nat_tests)
  one_named at (suc n) each = rw (one_named at n (λ k lt. each k (omega arith)), each n (omega arith)) (one_more at n)
    where
      one_more : (at n : ℕ) → nat_lt at n || (n == at) ≡ nat_lt at (suc n)
      one_more at n = grind (arith, common_steps, nat_tests)

flipped : (q : ℕ) → ((q + 1) % 2 == 0) ≡ not (q % 2 == 0)
flipped q = grind (arith, common_steps, nat_tests)

-- a slot of the round in which t is, or of the next one
module _ (size t : ℕ) (some : 0 < size) where
  is_sum : t ≡ t / size * size + t % size
  is_sum = sym (div-add-mod' t size)

  this_number : (k : ℕ) → t % size + k < size → (t + k) % size ≡ t % size + k
  this_number k lt =
      let e : t + k ≡ t / size * size + (t % size + k) = omega (arith, is_sum) in
      ap (λ (n : ℕ). n % size) e ∙ mod-mul-add (t / size) size (t % size + k) lt

  this_wrap : (k : ℕ) → t % size + k < size → wrap_counter size (t + k) ≡ wrap_counter size t
  this_wrap k lt =
      let e : t + k ≡ t / size * size + (t % size + k) = omega (arith, is_sum) in
      ap (λ (n : ℕ). n % 2 == 0) (ap (λ (n : ℕ). n / size) e ∙ div-mul-add (t / size) size (t % size + k) lt)

  next_number : (k : ℕ) → size ≤ t % size + k → t % size + k - size < size → (t + k) % size ≡ t % size + k - size
  next_number k le lt =
      let s : (t / size + 1) * size ≡ t / size * size + size = grind arith in
      let e : t + k ≡ (t / size + 1) * size + (t % size + k - size) = omega (arith, is_sum, s, le) in
      ap (λ (n : ℕ). n % size) e ∙ mod-mul-add (t / size + 1) size (t % size + k - size) lt

  next_wrap : (k : ℕ) → size ≤ t % size + k → t % size + k - size < size → wrap_counter size (t + k) ≡ not (wrap_counter size t)
  next_wrap k le lt =
      let s : (t / size + 1) * size ≡ t / size * size + size = grind arith in
      let e : t + k ≡ (t / size + 1) * size + (t % size + k - size) = omega (arith, is_sum, s, le) in
      ap (λ (n : ℕ). n % 2 == 0) (ap (λ (n : ℕ). n / size) e ∙ div-mul-add (t / size + 1) size (t % size + k - size) lt) ∙ flipped (t / size)

-- what the names of a slot amount to, over plain numbers: its number x and its wrap v
matches : Bool → ℕ → ℕ → Bool → Bool
matches w off x v = (x == off) && cond w v (not v)

module _ (size offset_wrap t n : ℕ) (some : 0 < size) (few : n ≤ size) where
  first_below : t % size < size
  first_below = mod-lt t some

  named_is : (k : ℕ) → is_named size offset_wrap (t + k) ≡ matches (offset_wrap / 32768 == 1) (offset_wrap % 32768) ((t + k) % size) (wrap_counter size (t + k))
  unfolding matches
  named_is k = refl

  here_or_next : (k : ℕ) → k < n
      → ((t % size + k < size) × (is_named size offset_wrap (t + k) ≡ matches (offset_wrap / 32768 == 1) (offset_wrap % 32768) (t % size + k) (wrap_counter size t)))
      ⊎ ((size ≤ t % size + k) × (is_named size offset_wrap (t + k) ≡ matches (offset_wrap / 32768 == 1) (offset_wrap % 32768) (t % size + k - size) (not (wrap_counter size t))))
  here_or_next k lt =
      elim (less_or_more (t % size + k) size) [
        | inl here ↦ inl (here, named_is k ∙ ap (λ (x : ℕ). matches (offset_wrap / 32768 == 1) (offset_wrap % 32768) x (wrap_counter size (t + k))) (this_number size t some k here) ∙ ap (matches (offset_wrap / 32768 == 1) (offset_wrap % 32768) (t % size + k)) (this_wrap size t some k here))
        | inr next ↦
            let small : t % size + k - size < size = omega (arith, first_below, few, lt, next) in
            inr (next, named_is k ∙ ap (λ (x : ℕ). matches (offset_wrap / 32768 == 1) (offset_wrap % 32768) x (wrap_counter size (t + k))) (next_number size t some k next small) ∙ ap (matches (offset_wrap / 32768 == 1) (offset_wrap % 32768) (t % size + k - size)) (next_wrap size t some k next small))
      ]
    where
      less_or_more : (a b : ℕ) → (a < b) ⊎ (b ≤ a)
      less_or_more a b = grind arith

  -- an offset past the ring names none
  pub none_past : size ≤ offset_wrap % 32768 → names_one size offset_wrap t n ≡ false
  unfolding matches
  none_past past =
      none_named size offset_wrap t n (λ k lt.
      elim (here_or_next k lt) [
        | inl here ↦ here.1 ∙ other (offset_wrap / 32768 == 1) (offset_wrap % 32768) (t % size + k) (wrap_counter size t) (omega (arith, here.0, past))
        | inr next ↦ next.1 ∙ other (offset_wrap / 32768 == 1) (offset_wrap % 32768) (t % size + k - size) (not (wrap_counter size t)) (omega (arith, first_below, few, lt, next.0, past))
      ])
    where
      other : (w : Bool) (off x : ℕ) (v : Bool) → x < off → matches w off x v ≡ false
      other w off x v lt = grind (arith, common_steps, nat_tests)

  same_wrap : (w : Bool) (off x : ℕ) → matches w off x w ≡ (x == off)
  unfolding matches
  same_wrap true off x = grind (arith, common_steps)
  same_wrap false off x = grind (arith, common_steps)

  other_wrap : (w : Bool) (off x : ℕ) → matches w off x (not w) ≡ false
  unfolding matches
  other_wrap true off x = grind (arith, common_steps)
  other_wrap false off x = grind (arith, common_steps)

  -- in the round of t
  this_round : (k : ℕ) → k < n → (offset_wrap / 32768 == 1) ≡ wrap_counter size t → is_named size offset_wrap (t + k) ≡ nat_lt (t % size + k) size && (t % size + k == offset_wrap % 32768)
  this_round k lt same =
      elim (here_or_next k lt) [
        | inl here ↦ here.1 ∙ ap (λ (w : Bool). matches w (offset_wrap % 32768) (t % size + k) (wrap_counter size t)) same ∙ same_wrap (wrap_counter size t) (offset_wrap % 32768) (t % size + k) ∙ sym (with (t % size + k) size (t % size + k == offset_wrap % 32768) here.0)
        | inr next ↦ next.1 ∙ ap (λ (w : Bool). matches w (offset_wrap % 32768) (t % size + k - size) (not (wrap_counter size t))) same ∙ other_wrap (wrap_counter size t) (offset_wrap % 32768) (t % size + k - size) ∙ sym (without (t % size + k) size (t % size + k == offset_wrap % 32768) next.0)
      ]
    where
      with : (a b : ℕ) (v : Bool) → a < b → nat_lt a b && v ≡ v
      with a b v lt = grind (arith, common_steps, nat_tests)

      without : (a b : ℕ) (v : Bool) → b ≤ a → nat_lt a b && v ≡ false
      without a b v le = grind (arith, common_steps, nat_tests)

  pub this_after : offset_wrap % 32768 < size → (offset_wrap / 32768 == 1) ≡ wrap_counter size t → t % size ≤ offset_wrap % 32768 → names_one size offset_wrap t n ≡ nat_lt (offset_wrap % 32768 - t % size) n
  this_after inside same le =
      one_named size offset_wrap t (offset_wrap % 32768 - t % size) n (λ k lt. this_round k lt same ∙ counted (t % size) k size (offset_wrap % 32768) inside le)
    where
      counted : (a k size off : ℕ) → off < size → a ≤ off → nat_lt (a + k) size && (a + k == off) ≡ (k == (off - a))
      counted a k size off lt le = grind (arith, common_steps, nat_tests)

  pub this_before : (offset_wrap / 32768 == 1) ≡ wrap_counter size t → offset_wrap % 32768 < t % size → names_one size offset_wrap t n ≡ false
  this_before same lt =
      none_named size offset_wrap t n (λ k below. this_round k below same ∙ counted (t % size) k size (offset_wrap % 32768) lt)
    where
      counted : (a k size off : ℕ) → off < a → nat_lt (a + k) size && (a + k == off) ≡ false
      counted a k size off lt = grind (arith, common_steps, nat_tests)

  -- in the next
  turned : (w v : Bool) → (w ≡ v → ⊥) → w ≡ not v
  turned true true other = absurd (other refl)
  turned true false other = refl
  turned false true other = refl
  turned false false other = absurd (other refl)

  twice : (w : Bool) → not (not w) ≡ w
  twice true = refl
  twice false = refl

  next_round : (k : ℕ) → k < n → (offset_wrap / 32768 == 1) ≡ not (wrap_counter size t) → is_named size offset_wrap (t + k) ≡ nat_le size (t % size + k) && (t % size + k - size == offset_wrap % 32768)
  next_round k lt other =
      elim (here_or_next k lt) [
        | inl here ↦
            here.1 ∙ ap (λ (v : Bool). matches (offset_wrap / 32768 == 1) (offset_wrap % 32768) (t % size + k) v) (sym (twice (wrap_counter size t)))
            ∙ ap (λ (w : Bool). matches w (offset_wrap % 32768) (t % size + k) (not (not (wrap_counter size t)))) other
            ∙ other_wrap (not (wrap_counter size t)) (offset_wrap % 32768) (t % size + k) ∙ sym (without size (t % size + k) (t % size + k - size == offset_wrap % 32768) here.0)
        | inr next ↦ next.1 ∙ ap (λ (w : Bool). matches w (offset_wrap % 32768) (t % size + k - size) (not (wrap_counter size t))) other ∙ same_wrap (not (wrap_counter size t)) (offset_wrap % 32768) (t % size + k - size) ∙ sym (with size (t % size + k) (t % size + k - size == offset_wrap % 32768) next.0)
      ]
    where
      with : (a b : ℕ) (v : Bool) → a ≤ b → nat_le a b && v ≡ v
      with a b v le = grind (arith, common_steps, nat_tests)

      without : (a b : ℕ) (v : Bool) → b < a → nat_le a b && v ≡ false
      without a b v lt = grind (arith, common_steps, nat_tests)

  pub next_after : offset_wrap % 32768 < size → (offset_wrap / 32768 == 1 ≡ wrap_counter size t → ⊥) → names_one size offset_wrap t n ≡ nat_lt (offset_wrap % 32768 + size) (t % size + n)
  next_after inside other =
      one_named size offset_wrap t (offset_wrap % 32768 + size - t % size) n (λ k lt. next_round k lt (turned (offset_wrap / 32768 == 1) (wrap_counter size t) other) ∙ counted (t % size) k size (offset_wrap % 32768) first_below)
      ∙ moved (offset_wrap % 32768 + size) (t % size) n (omega (arith, first_below))
    where
      counted : (a k size off : ℕ) → a < size → nat_le size (a + k) && (a + k - size == off) ≡ (k == (off + size - a))
      counted a k size off lt = grind (arith, common_steps, nat_tests)

      moved : (b a n : ℕ) → a ≤ b → nat_lt (b - a) n ≡ nat_lt b (a + n)
      moved b a n le = grind (arith, common_steps, nat_tests)
