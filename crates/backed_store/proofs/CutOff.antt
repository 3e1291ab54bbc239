-- The blocks of a store that was cut off.
use Rattle.std.proofs.Common.{◌≡◌, ◌≢◌, ℕ, ◌+◌, ◌-◌, ◌*◌, ◌/◌, ◌%◌, ◌<◌, ◌&&◌, Bool, true, false, IsTrue, List, nat_lt, is_some, Option, Some, None, inl, inr, if◌then◌else◌, refl, sym, ◌∙◌, ap, subst, arith}
use Rattle.std.specs.Option.{option_map}
use Rattle.std.proofs.lemmas.Bool.{cases_eq}
use Rattle.std.proofs.lemmas.Bool.Decides.{nat_tests, leb_tells}
use Rattle.block_store.specs.Blocks.{Blocks, nth_block, zero_block, zeroed, is_within}
use Rattle.backed_store.specs.Marks.{State, state_of}
use Rattle.block_store.specs.Storage.{cut}
use Rattle.backed_store.specs.Slots.{slot_at, mark_at, bytes_at, bytes_of}
use Rattle.backed_store.specs.declared.slot.Slot.{Slot}
use Rattle.backed_store.specs.declared.slots.Slots.{Slots}
use Rattle.backed_store.specs.declared.mark.Mark.{Mark}
use Rattle.backed_store.proofs.Over.{and-left, and-right}
use Rattle.backed_store.proofs.Parted.{stored}

-- a page that is in memory has a slot
pub held-some : (m : Option Mark) → IsTrue (state_of m).held → IsTrue (is_some m)
held-some None never = let impossible : false ≡ true = never in cc
held-some (Some m) held = refl

-- the last page that is left
pub wiped : (old new : List ℕ) (end b : ℕ) → b / 8 ≡ end / 8 →
    nth_block new (b % 8) ≡ zeroed (nth_block old) (end % 8) (8 - end % 8) (b % 8) →
    nth_block new (b % 8) ≡ (if nat_lt b end then nth_block old (b % 8) else zero_block)
wiped old new end b in_page zero =
    elim (leb_tells end b) [
      | inl past ↦
          let within : is_within (end % 8) (8 - end % 8) (b % 8) ≡ true = grind (arith, nat_tests, past.1, in_page) in
          let test : nat_lt b end ≡ false = grind (arith, nat_tests, past.1) in
          zero ∙ rw (within, test) refl
      | inr short ↦
          let within : is_within (end % 8) (8 - end % 8) (b % 8) ≡ false = grind (arith, nat_tests, short.1, in_page) in
          let test : nat_lt b end ≡ true = grind (arith, nat_tests, short.1) in
          zero ∙ rw (within, test) refl
    ]

-- a block of a page that is left
pub left-of : (old mid new : Slots) (end b : ℕ) → 8 * (b / 8) < end → slot_at mid (b / 8) ≡ slot_at old (b / 8) →
    IsTrue (state_of (mark_at old (b / 8))).held →
    (IsTrue (is_some (mark_at mid (end / 8))) → (k : ℕ) → nth_block (bytes_at new (end / 8)) k ≡ zeroed (nth_block (bytes_at mid (end / 8))) (end % 8) (8 - end % 8) k) →
    ((p : ℕ) → p ≢ end / 8 → bytes_at new p ≡ bytes_at mid p) →
    nth_block (bytes_at new (b / 8)) (b % 8) ≡ (if nat_lt b end then nth_block (bytes_at old (b / 8)) (b % 8) else zero_block)
left-of old mid new end b short same held here others =
    elim (cases_eq (b / 8) (end / 8)) [
      | inl last ↦
          let some : IsTrue (is_some (mark_at mid (b / 8))) =
          ap (λ (s : Option Slot). is_some (option_map (λ x. x.mark) s)) same ∙ held-some (mark_at old (b / 8)) held in
          let zero : nth_block (bytes_at new (b / 8)) (b % 8) ≡ zeroed (nth_block (bytes_at mid (b / 8))) (end % 8) (8 - end % 8) (b % 8) =
          subst (λ p. IsTrue (is_some (mark_at mid p)) → nth_block (bytes_at new p) (b % 8) ≡ zeroed (nth_block (bytes_at mid p)) (end % 8) (8 - end % 8) (b % 8)) (sym last)
          (λ is. here is (b % 8)) some in
          wiped (bytes_at mid (b / 8)) (bytes_at new (b / 8)) end b last zero
          ∙ ap (λ (l : List ℕ). if nat_lt b end then nth_block l (b % 8) else zero_block) (ap bytes_of same)
      | inr apart ↦
          let test : nat_lt b end ≡ true = grind (arith, nat_tests, short, apart) in
          let bytes : bytes_at new (b / 8) ≡ bytes_at old (b / 8) = others (b / 8) apart ∙ ap bytes_of same in
          rw test (ap (λ (l : List ℕ). nth_block l (b % 8)) bytes)
    ]

pub cut-stored : (states new_states : ℕ → State) (bytes new_bytes : ℕ → List ℕ) (kept : Blocks) (left : ℕ) →
    ((p : ℕ) → new_states p ≡ (if nat_lt (8 * p) left then states p else state_of None)) →
    ((b : ℕ) → 8 * (b / 8) < left → IsTrue (states (b / 8)).held →
    nth_block (new_bytes (b / 8)) (b % 8) ≡ (if nat_lt b left then nth_block (bytes (b / 8)) (b % 8) else zero_block)) →
    (b : ℕ) → stored new_states new_bytes (cut left kept) b ≡ cut left (stored states bytes kept) b
cut-stored states new_states bytes new_bytes kept left marked here b =
    elim (leb_tells left (8 * (b / 8))) [
      | inl past ↦
          let gone : nat_lt (8 * (b / 8)) left ≡ false = grind (arith, nat_tests, past.1) in
          let test : nat_lt b left ≡ false = grind (arith, nat_tests, past.1) in
          let state : new_states (b / 8) ≡ state_of None = marked (b / 8) ∙ rw gone refl in
          rw (state, test) refl
      | inr short ↦ by_held short.1 (states (b / 8)).held refl
    ]
  where
    by_held : 8 * (b / 8) < left → (held : Bool) → (states (b / 8)).held ≡ held →
        stored new_states new_bytes (cut left kept) b ≡ cut left (stored states bytes kept) b
    by_held short true there =
        let stays : nat_lt (8 * (b / 8)) left ≡ true = grind (arith, nat_tests, short) in
        let state : new_states (b / 8) ≡ states (b / 8) = marked (b / 8) ∙ rw stays refl in
        rw (state, there) (here b short there)
    by_held short false there =
        let stays : nat_lt (8 * (b / 8)) left ≡ true = grind (arith, nat_tests, short) in
        let state : new_states (b / 8) ≡ states (b / 8) = marked (b / 8) ∙ rw stays refl in
        rw (state, there) refl

-- Pages that are noted

-- a page lies below the end where its first block does
pub page-below : (p end left n : ℕ) → end ≡ (left + 7) / 8 → left ≡ n → nat_lt p end ≡ nat_lt (8 * p) n
page-below p end left n pages is = grind (arith, nat_tests)

-- one that is noted behind the cut was noted, and isn't cut off
pub still-denied : (p end left : ℕ) (noted was : Bool) → end ≡ (left + 7) / 8 → (nat_lt p end && noted) ≡ true → (noted ≡ true → was ≡ true) →
    (was && nat_lt (8 * p) left) ≡ true
still-denied p end left noted was pages here before =
    let below : nat_lt (8 * p) left ≡ true = sym (page-below p end left left pages refl) ∙ and-left (nat_lt p end) noted here in
    let there : was ≡ true = before (and-right (nat_lt p end) noted here) in
    rw (there, below) refl
