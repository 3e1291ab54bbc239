-- A queue offers one thing at a time.
use Rattle.std.proofs.Common.{◌≡◌, ℕ, ◌+◌, ◌<◌, List, [], ◌∷◌, ◌++◌, length, Bool, true, false, Option, Some, None, refl, sym, ap, subst, ◌∙◌, arith, map, ◌⊎◌, inl, inr}
use Rattle.std.proofs.lemmas.Option.{none-some, same_Some}
use Rattle.ring_core.specs.State.{RingState}
use Rattle.ring_core.specs.Walk.{nothing_before, is_indirect, part_of, amount, front, Sequence, LeadsTo, IsRun, IsFault, EndsIn, IsChain, ChainFails}
use Rattle.ring_core.specs.Split.{split_path, split_table, next_head, SplitChain, SplitFails}
use Rattle.ring_core.specs.Packed.{packed_slots, packed_table, available_place, chain_wrong, PackedChain, PackedFails}
use Rattle.ring_core.specs.Offer.{Offer, Nothing, Found, Refused, Offers, SplitOffers, PackedOffers, OffersInForm, OffersUnless}
use Rattle.ring_core.specs.declared.layout.Form.{Form}
use Rattle.ring_core.specs.declared.layout.Form.TheVariants.{Split, Packed}
use Rattle.ring_core.specs.declared.descriptor.Part.{Part}
use Rattle.ring_core.specs.declared.descriptor.Descriptor.{Descriptor}
use Rattle.ring_core.specs.declared.before.Before.{Before}
use Rattle.ring_core.specs.declared.fault.RingFault.{RingFault}

apart : (a b : ℕ) → (a < b) ⊎ (b < a) ⊎ (a ≡ b)
apart a b = grind arith

pub not_both : (b : Bool) → b ≡ true → b ≡ false → ⊥
not_both true e f = cc
not_both false e f = cc

module _ (s : Sequence) (first : Before) where
  -- where the sequence is left
  Stops : ℕ → Type 0
  Stops n = (s.wrong (amount first (front s.at n)) (s.at n) ≡ None) → s.on (amount first (front s.at n)) (s.at n) ≡ true → ⊥

  one_stop : (a b : ℕ) → LeadsTo s first a → Stops a → LeadsTo s first b → Stops b → a ≡ b
  unfolding Stops LeadsTo
  one_stop a b to_a at_a to_b at_b =
      elim (apart a b) [
        | inl lt ↦ absurd (at_a (to_b a lt).0 (to_b a lt).1)
        | inr r ↦ elim r [ inl lt ↦ absurd (at_b (to_a b lt).0 (to_a b lt).1) | inr e ↦ e ]
      ]

  run_stops : (n : ℕ) → s.on (amount first (front s.at n)) (s.at n) ≡ false → Stops n
  unfolding Stops
  run_stops n off = λ right more. cc

  fault_stops : (n : ℕ) (f : RingFault) → s.wrong (amount first (front s.at n)) (s.at n) ≡ Some f → Stops n
  unfolding Stops
  fault_stops n f bad = λ right more. none-some f (sym right ∙ bad)

  pub run_once : (c : List Descriptor) (x : Descriptor) (d : List Descriptor) (y : Descriptor) → IsRun s first c x → IsRun s first d y → (c ≡ d) × (x ≡ y)
  unfolding IsRun
  run_once c x d y (n, to_n, right_n, off_n, is_c, is_x) (k, to_k, right_k, off_k, is_d, is_y) =
      let e : n ≡ k = one_stop n k to_n (run_stops n off_n) to_k (run_stops k off_k) in
      (is_c ∙ ap (front s.at) e ∙ sym is_d, is_x ∙ ap s.at e ∙ sym is_y)

  pub fault_once : (f g : RingFault) → IsFault s first f → IsFault s first g → f ≡ g
  unfolding IsFault
  fault_once f g (n, to_n, bad_n) (k, to_k, bad_k) =
      let e : n ≡ k = one_stop n k to_n (fault_stops n f bad_n) to_k (fault_stops k g bad_k) in
      same_Some f g (sym bad_n ∙ ap (λ (x : ℕ). s.wrong (amount first (front s.at x)) (s.at x)) e ∙ bad_k)

  pub run_or_fault : (c : List Descriptor) (x : Descriptor) (f : RingFault) → IsRun s first c x → IsFault s first f → ⊥
  unfolding IsRun IsFault
  run_or_fault c x f (n, to_n, right_n, off_n, is_c, is_x) (k, to_k, bad_k) =
      let e : n ≡ k = one_stop n k to_n (run_stops n off_n) to_k (fault_stops k f bad_k) in
      none-some f (sym right_n ∙ ap (λ (x : ℕ). s.wrong (amount first (front s.at x)) (s.at x)) e ∙ bad_k)

-- A chain of two runs:
module _ (ring : Sequence) (table : Descriptor → Sequence) where
  ends_once : (b : Before) (x : Descriptor) (p q : List Descriptor) → EndsIn table b x p → EndsIn table b x q → p ≡ q
  ends_once b x p q (inl (plain, is)) (inl (plain2, is2)) = is ∙ sym is2
  ends_once b x p q (inl (plain, is)) (inr (tabled, r)) = absurd (not_both (is_indirect x) tabled plain)
  ends_once b x p q (inr (tabled, r)) (inl (plain, is)) = absurd (not_both (is_indirect x) tabled plain)
  ends_once b x p q (inr (tabled, (c, e, run, is))) (inr (tabled2, (d, f, run2, is2))) =
      let same = run_once (table x) b c e d f run run2 in
      is ∙ ap (λ (zs : List Descriptor). zs ++ e ∷ []) same.0 ∙ ap (λ (z : Descriptor). d ++ z ∷ []) same.1 ∙ sym is2

  abbrev Rest : List Descriptor → Descriptor → List Part → Type 0
  Rest c x p = (ends : List Descriptor) × EndsIn table (amount nothing_before c) x ends × (p ≡ map part_of (c ++ ends))

  rest_once : (c : List Descriptor) (x : Descriptor) (p q : List Part) → Rest c x p → Rest c x q → p ≡ q
  rest_once c x p q (a, ends_a, is_p) (b, ends_b, is_q) =
      is_p ∙ ap (λ (zs : List Descriptor). map part_of (c ++ zs)) (ends_once (amount nothing_before c) x a b ends_a ends_b) ∙ sym is_q

  pub chain_once : (c : List Descriptor) (x : Descriptor) (p : List Part) (d : List Descriptor) (y : Descriptor) (q : List Part)
      → IsChain ring table c x p → IsChain ring table d y q → (c ≡ d) × (x ≡ y) × (p ≡ q)
  chain_once c x p d y q (run, rest) (run2, rest2) =
      let same = run_once ring nothing_before c x d y run run2 in
      let other : Rest c y q = subst (λ (z : List Descriptor). Rest z y q) (sym same.0) rest2 in
      let here : Rest c x q = subst (λ (z : Descriptor). Rest c z q) (sym same.1) other in
      (same.0, same.1, rest_once c x p q rest here)

  abbrev TableFault : List Descriptor → Descriptor → RingFault → Type 0
  TableFault c x f = IsFault (table x) (amount nothing_before c) f

  moved : (c : List Descriptor) (x : Descriptor) (d : List Descriptor) (y : Descriptor) (f : RingFault) → d ≡ c → y ≡ x → TableFault d y f → TableFault c x f
  moved c x d y f e g bad = subst (λ (z : Descriptor). TableFault c z f) g (subst (λ (z : List Descriptor). TableFault z y f) e bad)

  pub fails_once : (f g : RingFault) → ChainFails ring table f → ChainFails ring table g → f ≡ g
  fails_once f g (inl p) (inl q) = fault_once ring nothing_before f g p q
  fails_once f g (inl p) (inr (d, y, run, tabled, q)) = absurd (run_or_fault ring nothing_before d y f run p)
  fails_once f g (inr (d, y, run, tabled, q)) (inl p) = absurd (run_or_fault ring nothing_before d y g run p)
  fails_once f g (inr (c, x, run, tabled, p)) (inr (d, y, run2, tabled2, q)) =
      let same = run_once ring nothing_before c x d y run run2 in
      fault_once (table x) (amount nothing_before c) f g p (moved c x d y g (sym same.0) (sym same.1) q)

  ends_or_fault : (b : Before) (x : Descriptor) (p : List Descriptor) (f : RingFault) → EndsIn table b x p → is_indirect x ≡ true → IsFault (table x) b f → ⊥
  ends_or_fault b x p f (inl (plain, is)) tabled bad = not_both (is_indirect x) tabled plain
  ends_or_fault b x p f (inr (tabled, (c, e, run, is))) tabled2 bad = run_or_fault (table x) b c e f run bad

  pub chain_or_fails : (c : List Descriptor) (x : Descriptor) (p : List Part) (f : RingFault) → IsChain ring table c x p → ChainFails ring table f → ⊥
  chain_or_fails c x p f (run, rest) (inl bad) = run_or_fault ring nothing_before c x f run bad
  chain_or_fails c x p f (run, (ends, ends_are, is)) (inr (d, y, run2, tabled, bad)) =
      let same = run_once ring nothing_before c x d y run run2 in
      ends_or_fault (amount nothing_before c) x ends f ends_are (ap is_indirect same.1 ∙ tabled) (moved c x d y f (sym same.0) (sym same.1) bad)

module _ (s : RingState) (m : List ℕ) where
  abbrev Path : Sequence
  Path = split_path s.features m s.layout.desc s.layout.size (next_head s m)

  parts_once : (a b : List Part) → SplitChain s.features m s.layout.desc s.layout.size (next_head s m) a → SplitChain s.features m s.layout.desc s.layout.size (next_head s m) b → a ≡ b
  parts_once a b (c, x, is_c) (d, y, is_d) = let e = chain_once Path (split_table m) c x a d y b is_c is_d in e.2

  fine_or_fails : (a : List Part) (f : RingFault) → SplitChain s.features m s.layout.desc s.layout.size (next_head s m) a → SplitFails s.features m s.layout.desc s.layout.size (next_head s m) f → ⊥
  fine_or_fails a f (c, x, is_c) bad = chain_or_fails Path (split_table m) c x a f is_c bad

  split_once : (a b : Offer) → SplitOffers s m a → SplitOffers s m b → a ≡ b
  split_once Nothing Nothing p q = refl
  split_once Nothing (Found id slots parts) p q = absurd (q.0 p)
  split_once Nothing (Refused f) p q = absurd (q.0 p)
  split_once (Found id slots parts) Nothing p q = absurd (p.0 q)
  split_once (Refused f) Nothing p q = absurd (p.0 q)
  split_once (Found i j parts) (Found k l rest) (some, fine, is, one, c) (some2, fine2, is2, one2, d) =
      let e : parts ≡ rest = parts_once parts rest c d in
      cc
  split_once (Found i j parts) (Refused f) (some, fine, is, one, c) (some2, inl bad) = absurd (none-some f (sym fine ∙ bad))
  split_once (Found i j parts) (Refused f) (some, fine, is, one, c) (some2, inr bad) = absurd (fine_or_fails parts f c bad.1)
  split_once (Refused f) (Found i j parts) (some2, inl bad) (some, fine, is, one, c) = absurd (none-some f (sym fine ∙ bad))
  split_once (Refused f) (Found i j parts) (some2, inr bad) (some, fine, is, one, c) = absurd (fine_or_fails parts f c bad.1)
  split_once (Refused f) (Refused g) (some, inl p) (some2, inl q) = ap (λ (x : RingFault). Refused x) (same_Some f g (sym p ∙ q))
  split_once (Refused f) (Refused g) (some, inl p) (some2, inr q) = absurd (none-some f (sym q.0 ∙ p))
  split_once (Refused f) (Refused g) (some, inr p) (some2, inl q) = absurd (none-some g (sym p.0 ∙ q))
  split_once (Refused f) (Refused g) (some, inr p) (some2, inr q) =
      ap (λ (x : RingFault). Refused x) (fails_once Path (split_table m) f g p.1 q.1)

module _ (s : RingState) (m : List ℕ) where
  abbrev Slots : Sequence
  Slots = packed_slots s.features m s.layout (available_place s)

  same_chain : (i j k l : ℕ) (parts rest : List Part) → PackedChain s.features m s.layout (available_place s) i j parts → PackedChain s.features m s.layout (available_place s) k l rest
      → (i ≡ k) × (j ≡ l) × (parts ≡ rest)
  same_chain i j k l parts rest (c, x, is_c, id_c, slots_c) (d, y, is_d, id_d, slots_d) =
      let e = chain_once Slots (packed_table m) c x parts d y rest is_c is_d in (
        id_c ∙ ap (λ (z : Descriptor). z.next_or_id) e.1 ∙ sym id_d,
        slots_c ∙ ap (λ (z : List Descriptor). length z + 1) e.0 ∙ sym slots_d,
        e.2,
      )

  fine_or_wrong : (i j : ℕ) (parts : List Part) (f : RingFault) → PackedChain s.features m s.layout (available_place s) i j parts → PackedFails s.features m s.layout (available_place s) f → ⊥
  fine_or_wrong i j parts f (c, x, is_c, id_c, slots_c) bad = chain_or_fails Slots (packed_table m) c x parts f is_c bad

  same_whole : (i j k l : ℕ) (parts rest : List Part) → PackedChain s.features m s.layout (available_place s) i j parts → PackedChain s.features m s.layout (available_place s) k l rest
      → chain_wrong s i j ≡ chain_wrong s k l
  same_whole i j k l parts rest c d =
      let e = same_chain i j k l parts rest c d in
      ap (λ (x : ℕ). chain_wrong s x j) e.0 ∙ ap (λ (x : ℕ). chain_wrong s k x) e.1

  packed_once : (a b : Offer) → PackedOffers s m a → PackedOffers s m b → a ≡ b
  packed_once Nothing Nothing p q = refl
  packed_once Nothing (Found id slots parts) p q = let e = q.0 in absurd (cc)
  packed_once Nothing (Refused f) p q = let e = q.0 in absurd (cc)
  packed_once (Found id slots parts) Nothing p q = let e = p.0 in absurd (cc)
  packed_once (Refused f) Nothing p q = let e = p.0 in absurd (cc)
  packed_once (Found i j parts) (Found k l rest) (some, c, right) (some2, d, right2) =
      let e = same_chain i j k l parts rest c d in
      let e0 = e.0 in let e1 = e.1 in let e2 = e.2 in
      cc
  packed_once (Found i j parts) (Refused f) (some, c, right) (some2, inl bad) = absurd (fine_or_wrong i j parts f c bad)
  packed_once (Found i j parts) (Refused f) (some, c, right) (some2, inr (k, l, rest, d, bad)) =
      absurd (none-some f (sym right ∙ same_whole i j k l parts rest c d ∙ bad))
  packed_once (Refused f) (Found i j parts) (some2, inl bad) (some, c, right) = absurd (fine_or_wrong i j parts f c bad)
  packed_once (Refused f) (Found i j parts) (some2, inr (k, l, rest, d, bad)) (some, c, right) =
      absurd (none-some f (sym right ∙ same_whole i j k l parts rest c d ∙ bad))
  packed_once (Refused f) (Refused g) (some, inl p) (some2, inl q) =
      ap (λ (x : RingFault). Refused x) (fails_once Slots (packed_table m) f g p q)
  packed_once (Refused f) (Refused g) (some, inl p) (some2, inr (k, l, rest, d, bad)) = absurd (fine_or_wrong k l rest f d p)
  packed_once (Refused f) (Refused g) (some, inr (k, l, rest, d, bad)) (some2, inl q) = absurd (fine_or_wrong k l rest g d q)
  packed_once (Refused f) (Refused g) (some, inr (i, j, parts, c, p)) (some2, inr (k, l, rest, d, q)) =
      ap (λ (x : RingFault). Refused x) (same_Some f g (sym p ∙ same_whole i j k l parts rest c d ∙ q))

in_form_once : (form : Form) (s : RingState) (m : List ℕ) (a b : Offer) → OffersInForm form s m a → OffersInForm form s m b → a ≡ b
in_form_once Split s m a b p q = split_once s m a b p q
in_form_once Packed s m a b p q = packed_once s m a b p q

unless_once : (broken : Option RingFault) (s : RingState) (m : List ℕ) (a b : Offer) → OffersUnless broken s m a → OffersUnless broken s m b → a ≡ b
unless_once (Some f) s m a b p q = p ∙ sym q
unless_once None s m a b p q = in_form_once s.form s m a b p q

pub offers_once : (s : RingState) (m : List ℕ) (a b : Offer) → Offers s m a → Offers s m b → a ≡ b
offers_once s m a b p q = unless_once s.broken s m a b p q
