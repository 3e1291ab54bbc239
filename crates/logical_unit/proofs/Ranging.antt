-- Noting ranges one after another.
use Rattle.std.proofs.Common.{◌≡◌, ℕ, ◌+◌, ◌<◌, inl, inr, Bool, true, false, ◌||◌, List, length, drop, refl, sym, ◌∙◌, ap, subst, arith}
use Rattle.std.proofs.lemmas.Bool.Decides.{nat_tests}
use Rattle.block_store.specs.Blocks.{is_within}
use Rattle.command_model.specs.UnmapList.{descriptors, descriptors_in, descriptor_count, is_named}
use Rattle.block_commands.proofs.Descriptors.{left, left-none, left-all}
use Rattle.logical_unit.specs.Changes.{PlainChanges, is_in}
use Rattle.logical_unit.specs.Inner.Noting.{Notes}

neither : (a b : Bool) → (a || b) ≡ false → (a ≡ false) × (b ≡ false)
neither true b never = absurd (cc)
neither false b holds = (refl, holds)

both : (a b : Bool) → a ≡ false → b ≡ false → (a || b) ≡ false
both true b never none = absurd (cc)
both false b holds none = none

-- ranges that are added, once place was made for them
pub notes_added : (touched : ℕ → Bool) (capacity place : ℕ) (old mid new : PlainChanges) → Notes (λ b. false) capacity place old mid → new.since ≡ mid.since
    → ((b : ℕ) → b < capacity → is_in new.ranges b ≡ false → (is_in mid.ranges b || touched b) ≡ false) → Notes touched capacity place old new
notes_added touched capacity place old mid new n since covers =
    record {
      noted = λ b below out. (neither (is_in mid.ranges b) (touched b) (covers b below out)).1;
      kept = elim n.kept [
        | inl same ↦ inl (since ∙ same.0, λ b below out. same.1 b below (neither (is_in mid.ranges b) (touched b) (covers b below out)).0)
        | inr anew ↦ inr (since ∙ anew)
      ];
    }

-- the same, of blocks that are touched below the capacity alone
pub notes_as : (touched touched' : ℕ → Bool) (capacity place : ℕ) (old new : PlainChanges) → Notes touched capacity place old new
    → ((b : ℕ) → b < capacity → touched b ≡ false → touched' b ≡ false) → Notes touched' capacity place old new
notes_as touched touched' capacity place old new n as_said = record { noted = λ b below out. as_said b below (n.noted b below out); kept = n.kept }

-- nothing, where no block is touched
pub notes_unchanged : (touched : ℕ → Bool) (capacity place : ℕ) (c : PlainChanges) → ((b : ℕ) → touched b ≡ false) → Notes touched capacity place c c
notes_unchanged touched capacity place c none = record { noted = λ b below out. none b; kept = inl (refl, λ b below out. out) }

-- the whole disk
pub all_within : (capacity b : ℕ) (touched : Bool) → b < capacity → is_within 0 capacity b ≡ false → touched ≡ false
all_within capacity b touched below out = absurd (let h = below in grind (arith, nat_tests))

-- a list without a header has no descriptors
pub unnamed-short : (bytes : List ℕ) (b : ℕ) → length bytes < 8 → is_named (descriptors bytes) b ≡ false
unfolding descriptor_count
unnamed-short bytes b short =
    let none : descriptor_count bytes ≡ 0 = omega (arith, short) in
    ap (λ n. is_named (descriptors_in n (drop 8 bytes)) b) none

-- the ranges of the descriptors of a list, behind its header
pub notes_named : (n : ℕ) (list taken : List ℕ) (capacity place : ℕ) (old mid new : PlainChanges) → n ≡ descriptor_count list → taken ≡ drop 8 list
    → Notes (λ b. false) capacity place old mid → new.since ≡ mid.since
    → ((b : ℕ) → b < capacity → is_in new.ranges b ≡ false → (is_in mid.ranges b || is_named (descriptors_in n taken) b) ≡ false)
    → Notes (is_named (descriptors list)) capacity place old new
notes_named n list taken capacity place old mid new count behind notes since covers =
    notes_added (is_named (descriptors list)) capacity place old mid new notes since
    (λ b below out. subst (λ w. (is_in mid.ranges b || is_named (descriptors_in w (drop 8 list)) b) ≡ false) count
    (subst (λ w. (is_in mid.ranges b || is_named (descriptors_in n w) b) ≡ false) behind (covers b below out)))

-- the blocks that are noted, and those of the descriptors that are left, are all
pub covers-first : (n b : ℕ) (taken : List ℕ) (in_old : Bool) → in_old ≡ false → is_named (left n 0 taken) b ≡ false → (in_old || is_named (descriptors_in n taken) b) ≡ false
covers-first n b taken in_old out none = both in_old _ out (sym (ap (λ w. is_named w b) (left-all n taken)) ∙ none)

pub covers-more : (n k b : ℕ) (taken : List ℕ) (first count : ℕ) (in_old : Bool) → k < n
    → is_named (left n k taken) b ≡ (is_within first count b || is_named (left n (k + 1) taken) b)
    → (in_old || is_within first count b) ≡ false → is_named (left n (k + 1) taken) b ≡ false
    → (in_old ≡ false) × (is_named (left n k taken) b ≡ false)
covers-more n k b taken first count in_old below more out rest =
    let apart = neither in_old (is_within first count b) out in
    (apart.0, more ∙ both (is_within first count b) _ apart.1 rest)

pub covers-last : (n k b : ℕ) (taken : List ℕ) → k ≡ n → is_named (left n k taken) b ≡ false
covers-last n k b taken last = subst (λ m. is_named (left n m taken) b ≡ false) (sym last) (ap (λ w. is_named w b) (left-none n taken))
