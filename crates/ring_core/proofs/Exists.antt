-- A queue always offers something.
use Rattle.std.proofs.Common.{◌≡◌, ◌≢◌, ℕ, zero, suc, ◌+◌, ◌/◌, ◌≤◌, List, length, Bool, true, false, Option, Some, None, refl, arith, map, ◌⊎◌, inl, inr, below_more, [], ◌∷◌, ◌++◌, length-append}
use Rattle.std.proofs.lemmas.Grind.{common_steps}
use Rattle.std.proofs.lemmas.Bool.Decides.{nat_tests}
use Rattle.ring_core.specs.State.{RingState, no_features}
use Rattle.ring_core.specs.Walk.{nothing_before, goes_on, is_indirect, part_of, table_wrong, amount, front, Sequence, LeadsTo, IsRun, IsFault, IsChain, ChainFails}
use Rattle.ring_core.specs.Split.{split_path, split_table, ahead, next_head, entry_wrong, split_wrong}
use Rattle.ring_core.specs.Packed.{packed_slots, packed_table, packed_wrong, available_place, chain_wrong, is_available}
use Rattle.ring_core.specs.Offer.{Offer, Nothing, Found, Refused, Offers, SplitOffers, PackedOffers, OffersInForm, OffersUnless}
use Rattle.ring_core.specs.declared.layout.Features.{Features}
use Rattle.ring_core.specs.declared.layout.Form.{Form}
use Rattle.ring_core.specs.declared.layout.Form.TheVariants.{Split, Packed}
use Rattle.ring_core.specs.declared.descriptor.Part.{Part}
use Rattle.ring_core.specs.declared.descriptor.Descriptor.{Descriptor}
use Rattle.ring_core.specs.declared.before.Before.{Before}
use Rattle.ring_core.specs.declared.fault.RingFault.{RingFault}

some_or_none : (o : Option RingFault) → (o ≡ None) ⊎ ((f : RingFault) × (o ≡ Some f))
some_or_none None = inl refl
some_or_none (Some f) = inr (f, refl)

pub true_or_false : (b : Bool) → (b ≡ true) ⊎ (b ≡ false)
true_or_false true = inl refl
true_or_false false = inr refl

zero_or_not : (n : ℕ) → (n ≡ 0) ⊎ (n ≢ 0)
zero_or_not n = grind arith

-- past so many descriptors of a run none is right and gone on past
abbrev pub Ends : Sequence → ℕ → Type 0
Ends s size = (b : Before) (d : Descriptor) → size ≤ b.count + 1 → s.wrong b d ≡ None → s.on b d ≡ true → ⊥

pub length-front : (at : ℕ → Descriptor) (n : ℕ) → length (front at n) ≡ n
unfolding front
length-front at zero = refl
length-front at (suc n) = omega (arith, length-append (front at n) (at n ∷ []), length-front at n)

-- Along a sequence that ends:
module _ (s : Sequence) (first : Before) (size : ℕ) (ends : Ends s size) where
  abbrev Ended : Type 0
  Ended = ((direct : List Descriptor) × (last : Descriptor) × IsRun s first direct last) ⊎ ((f : RingFault) × IsFault s first f)

  look : (n : ℕ) → LeadsTo s first n → (s.wrong (amount first (front s.at n)) (s.at n) ≡ None → s.on (amount first (front s.at n)) (s.at n) ≡ true → Ended) → Ended
  unfolding IsRun IsFault
  look n leads further =
      elim (some_or_none (s.wrong (amount first (front s.at n)) (s.at n))) [
        | inr bad ↦ inr (bad.0, (n, leads, bad.1))
        | inl right ↦ elim (true_or_false (s.on (amount first (front s.at n)) (s.at n))) [ inr off ↦ inl (front s.at n, s.at n, (n, leads, right, off, refl, refl)) | inl more ↦ further right more ]
      ]

  -- with so many left to look at
  from : (left n : ℕ) → size ≤ n + left + 1 → LeadsTo s first n → Ended
  unfolding LeadsTo
  from zero n enough leads = look n leads (λ right more. absurd (ends (amount first (front s.at n)) (s.at n) (omega (arith, length-front s.at n)) right more))
  from (suc left) n enough leads = look n leads (λ right more. from left (n + 1) (omega arith) (below_more _ _ leads (right, more)))

  pub ended : Ended
  unfolding LeadsTo
  ended = from size 0 (omega arith) (λ k lt. absurd (omega arith))

-- A chain of two runs that end:
module _ (ring : Sequence) (table : Descriptor → Sequence) (size : ℕ) (sizes : Descriptor → ℕ) (ends : Ends ring size) (table_ends : (d : Descriptor) → Ends (table d) (sizes d)) where
  abbrev Known : Type 0
  Known = ((direct : List Descriptor) × (last : Descriptor) × (parts : List Part) × IsChain ring table direct last parts) ⊎ ((f : RingFault) × ChainFails ring table f)

  behind : (direct : List Descriptor) (last : Descriptor) → IsRun ring nothing_before direct last → Known
  behind direct last run =
      elim (true_or_false (is_indirect last)) [
        | inr plain ↦ inl (direct, last, map part_of (direct ++ last ∷ []), (run, (last ∷ [], inl (plain, refl), refl)))
        | inl tabled ↦ elim (ended (table last) (amount nothing_before direct) (sizes last) (table_ends last)) [
          | inl found ↦ inl (direct, last, map part_of (direct ++ (found.0 ++ found.1 ∷ [])), (run, (found.0 ++ found.1 ∷ [], inr (tabled, (found.0, found.1, found.2, refl)), refl)))
          | inr bad ↦ inr (bad.0, inr (direct, last, run, tabled, bad.1))
        ]
      ]

  pub known : Known
  known =
      elim (ended ring nothing_before size ends) [
        | inl found ↦ behind found.0 found.1 found.2
        | inr bad ↦ inr (bad.0, inl bad.1)
      ]

-- what is tested ends a run
table_goes_on : (features : Features) (memory : ℕ) (d : Descriptor) → table_wrong features memory d ≡ None → goes_on d ≡ true → ⊥
table_goes_on features memory d e more = grind (arith, common_steps)

split_tabled : (features : Features) (memory size : ℕ) (b : Before) (d : Descriptor) → split_wrong features memory size b d ≡ None → is_indirect d ≡ true → table_wrong features memory d ≡ None
split_tabled features memory size b d e tabled = grind (arith, common_steps)

split_plain_ends : (features : Features) (memory size : ℕ) (b : Before) (d : Descriptor) → size ≤ b.count + 1 → is_indirect d ≡ false → split_wrong features memory size b d ≡ None → goes_on d ≡ true → ⊥
split_plain_ends features memory size b d small plain right more = grind (arith, common_steps, nat_tests)

split_ends_at : (features : Features) (memory size : ℕ) (b : Before) (d : Descriptor) → size ≤ b.count + 1 → split_wrong features memory size b d ≡ None → goes_on d ≡ true → ⊥
split_ends_at features memory size b d small right more =
    elim (true_or_false (is_indirect d)) [
      | inl tabled ↦ absurd (table_goes_on features memory d (split_tabled features memory size b d right tabled) more)
      | inr plain ↦ split_plain_ends features memory size b d small plain right more
    ]

packed_ends_at : (features : Features) (memory size : ℕ) (b : Before) (d : Descriptor) → size ≤ b.count + 1 → packed_wrong features memory size b d ≡ None → goes_on d ≡ true → ⊥
packed_ends_at features memory size b d small right more = grind (arith, common_steps, nat_tests)

pub split_ends : (features : Features) (m : List ℕ) (table size head : ℕ) → Ends (split_path features m table size head) size
split_ends features m table size head b d small right more = split_ends_at features (length m) size b d small right more

pub split_table_ends : (m : List ℕ) (d : Descriptor) → Ends (split_table m d) (d.len / 16)
split_table_ends m d = split_ends no_features m d.addr (d.len / 16) 0

pub packed_ends : (s : RingState) (m : List ℕ) (t : ℕ) → Ends (packed_slots s.features m s.layout t) s.layout.size
packed_ends s m t b d small right more = packed_ends_at s.features (length m) s.layout.size b d small right more

pub packed_table_ends : (m : List ℕ) (d : Descriptor) → Ends (packed_table m d) (d.len / 16)
packed_table_ends m d b e small right more = grind (arith, nat_tests)

packed_some : (s : RingState) (m : List ℕ) → (o : Offer) × PackedOffers s m o
packed_some s m =
    elim (true_or_false (is_available s m)) [
      | inr none ↦ (Nothing, none)
      | inl some ↦ elim (known (packed_slots s.features m s.layout (available_place s)) (packed_table m) s.layout.size (λ d. d.len / 16) (packed_ends s m (available_place s)) (packed_table_ends m)) [
        | inr bad ↦ (Refused bad.0, (some, inl bad.1))
        | inl chain ↦ elim (some_or_none (chain_wrong s chain.1.next_or_id (length chain.0 + 1))) [
          | inr bad ↦ (Refused bad.0, (some, inr (chain.1.next_or_id, length chain.0 + 1, chain.2, (chain.0, chain.1, chain.3, refl, refl), bad.1)))
          | inl fine ↦ (Found chain.1.next_or_id (length chain.0 + 1) chain.2, (some, (chain.0, chain.1, chain.3, refl, refl), fine))
        ]
      ]
    ]

split_some : (s : RingState) (m : List ℕ) → (o : Offer) × SplitOffers s m o
split_some s m =
    elim (zero_or_not (ahead s m)) [
      | inl none ↦ (Nothing, none)
      | inr some ↦ elim (some_or_none (entry_wrong s m)) [
        | inr bad ↦ (Refused bad.0, (some, inl bad.1))
        | inl fine ↦ elim (known (split_path s.features m s.layout.desc s.layout.size (next_head s m)) (split_table m) s.layout.size (λ d. d.len / 16) (split_ends s.features m s.layout.desc s.layout.size (next_head s m)) (split_table_ends m)) [
          | inl chain ↦ (Found (next_head s m) 1 chain.2, (some, fine, refl, refl, (chain.0, chain.1, chain.3)))
          | inr bad ↦ (Refused bad.0, (some, inr (fine, bad.1)))
        ]
      ]
    ]

in_form_some : (form : Form) (s : RingState) (m : List ℕ) → (o : Offer) × OffersInForm form s m o
in_form_some Split s m = split_some s m
in_form_some Packed s m = packed_some s m

unless_some : (broken : Option RingFault) (s : RingState) (m : List ℕ) → (o : Offer) × OffersUnless broken s m o
unless_some (Some f) s m = (Refused f, refl)
unless_some None s m = in_form_some s.form s m

pub offers_some : (s : RingState) (m : List ℕ) → (o : Offer) × Offers s m o
offers_some s m = unless_some s.broken s m
