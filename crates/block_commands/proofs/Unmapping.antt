-- An UNMAP by the tests on its list.
use Rattle.std.proofs.Common.{◌≡◌, ℕ, ◌≤◌, true, false, Bool, List, [], ◌∷◌, length, drop, if◌then◌else◌, refl, ◌∙◌, Err, arith, eqb, ltb, IsTrue, rules, None, inl, inr}
use Rattle.std.proofs.lemmas.Bool.Decides.{nat_tests, eqb_tells}
use Rattle.command_model.specs.PlainReply.{replied}
use Rattle.command_model.specs.Statuses.{good}
use Rattle.block_commands.proofs.Ranges.{permitted-good, reported-good}
use Rattle.std.specs.Prelude.{◌||◌, ◌&&◌, nat_lt}
use Rattle.sense.specs.Conditions.{parameter_list_length_error, lba_out_of_range, invalid_field_in_parameter_list}
use Rattle.cdb.specs.declared.commands.Command.TheVariants.{Unmap}
use Rattle.block_store.specs.Blocks.{Blocks}
use Rattle.command_model.specs.Facts.{Facts}
use Rattle.command_model.specs.Data.{done}
use Rattle.command_model.specs.Replies.{read_only_told, unmap_answer, reply_of}
use Rattle.command_model.specs.UnmapList.{descriptors, descriptors_in, descriptor_count, blocks_named, are_in_range}
use Rattle.block_commands.proofs.Descriptors.{length-descriptors_in}

pub descriptors-none : (bytes : List ℕ) → length bytes ≡ 0 → descriptors bytes ≡ []
unfolding descriptor_count
descriptors-none [] none = refl
descriptors-none (x ∷ xs) some = absurd (omega arith)

pub unmap_answer-whole : (blocks n : ℕ) (bytes : List ℕ) → 8 ≤ length bytes → n ≡ descriptor_count bytes →
    unmap_answer blocks bytes
    ≡ (if nat_lt 16 n || nat_lt 65536 (blocks_named (descriptors_in n (drop 8 bytes))) then Err invalid_field_in_parameter_list
    else (if are_in_range blocks (descriptors_in n (drop 8 bytes)) then done else Err lba_out_of_range))
unmap_answer-whole blocks n bytes whole count =
    let some : eqb (length bytes) 0 ≡ false = grind (arith, nat_tests) in
    let uncut : ltb (length bytes) 8 ≡ false = grind (arith, nat_tests) in
    rw (some, uncut, ← count, length-descriptors_in n (drop 8 bytes)) refl

-- the same, by what the tests said of the bytes behind the header
module _ (blocks n : ℕ) (bytes rest : List ℕ) (whole : 8 ≤ length bytes) (count : n ≡ descriptor_count bytes) (behind : rest ≡ drop 8 bytes) where
  pub unmap_answer-too_much : (nat_lt 16 n || nat_lt 65536 (blocks_named (descriptors_in n rest))) ≡ true →
      unmap_answer blocks bytes ≡ Err invalid_field_in_parameter_list
  unmap_answer-too_much test = unmap_answer-whole blocks n bytes whole count ∙ rw (rw behind at test) refl

  pub unmap_answer-outside : (nat_lt 16 n || nat_lt 65536 (blocks_named (descriptors_in n rest))) ≡ false → are_in_range blocks (descriptors_in n rest) ≡ false →
      unmap_answer blocks bytes ≡ Err lba_out_of_range
  unmap_answer-outside test range = unmap_answer-whole blocks n bytes whole count ∙ rw (rw behind at test, rw behind at range) refl

  pub unmap_answer-done : (nat_lt 16 n || nat_lt 65536 (blocks_named (descriptors_in n rest))) ≡ false → are_in_range blocks (descriptors_in n rest) ≡ true →
      unmap_answer blocks bytes ≡ done
  unmap_answer-done test range = unmap_answer-whole blocks n bytes whole count ∙ rw (rw behind at test, rw behind at range) refl

pub second : (a b : Bool) → IsTrue (a && b) → IsTrue b
second true b holds = holds
second false b never = search rules

-- zeros where the first names the block, and then where a later one does, are zeros where one of them does
pub zeroed_in_turn : (first later any : Bool) (old zeros all : List ℕ) → any ≡ (first || later) →
    (if any then zeros else old) ≡ all → (if later then zeros else (if first then zeros else old)) ≡ all
zeroed_in_turn true true any old zeros all or so_far = rw or at so_far
zeroed_in_turn true false any old zeros all or so_far = rw or at so_far
zeroed_in_turn false later any old zeros all or so_far = rw or at so_far

-- a GOOD one passed its tests
tested-good : (n : ℕ) (cut too_much inside : Bool) →
    (replied (Unmap n) (if cut then Err parameter_list_length_error else (if too_much then Err invalid_field_in_parameter_list else (if inside then done else Err lba_out_of_range)))).status ≡ good →
    inside ≡ true
tested-good n true too_much inside ended = absurd (omega arith)
tested-good n false true inside ended = absurd (omega arith)
tested-good n false false true ended = refl
tested-good n false false false ended = absurd (omega arith)

-- what an UNMAP that ended with GOOD names is in range
pub unmapped-in_range : (facts : Facts) (n : ℕ) (bytes : List ℕ) (blocks : Blocks) → (reply_of facts (Unmap n) bytes blocks).status ≡ good →
    IsTrue (are_in_range facts.capacity (descriptors bytes))
unmapped-in_range facts n bytes blocks ended =
    let none : facts.pending ≡ None = reported-good facts.pending _ ended in
    let writable : read_only_told facts ≡ false = permitted-good (Unmap n) _ _ (rw none at ended) in
    elim (eqb_tells (length bytes) 0) [
      | inl empty ↦ rw (descriptors-none bytes empty.1) refl
      | inr some ↦ tested-good n _ _ _ (rw (none, writable, some.0) at ended)
    ]

-- and it passed the test on its number of descriptors and of blocks
counted-good : (n : ℕ) (cut too_much inside : Bool) →
    (replied (Unmap n) (if cut then Err parameter_list_length_error else (if too_much then Err invalid_field_in_parameter_list else (if inside then done else Err lba_out_of_range)))).status ≡ good →
    too_much ≡ false
counted-good n true too_much inside ended = absurd (omega arith)
counted-good n false true inside ended = absurd (omega arith)
counted-good n false false inside ended = refl

neither : (a b : Bool) → (a || b) ≡ false → (a ≡ false) × (b ≡ false)
neither true b never = absurd (search rules)
neither false b holds = (refl, holds)

-- neither is over its limit
pub unmapped-counted : (facts : Facts) (n : ℕ) (bytes : List ℕ) (blocks : Blocks) → (reply_of facts (Unmap n) bytes blocks).status ≡ good →
    (nat_lt 16 (length (descriptors bytes)) ≡ false) × (nat_lt 65536 (blocks_named (descriptors bytes)) ≡ false)
unmapped-counted facts n bytes blocks ended =
    let none : facts.pending ≡ None = reported-good facts.pending _ ended in
    let writable : read_only_told facts ≡ false = permitted-good (Unmap n) _ _ (rw none at ended) in
    elim (eqb_tells (length bytes) 0) [
      | inl empty ↦ rw (descriptors-none bytes empty.1) (refl, refl)
      | inr some ↦ neither _ _ (counted-good n _ _ _ (rw (none, writable, some.0) at ended))
    ]

pub or-first : (a b : Bool) → IsTrue a → IsTrue (a || b)
or-first true b holds = refl
or-first false b never = search rules

pub or-second : (a b : Bool) → IsTrue b → IsTrue (a || b)
or-second true b holds = refl
or-second false b holds = holds

pub first : (a b : Bool) → IsTrue (a && b) → IsTrue a
first true b holds = refl
first false b never = search rules

-- what was left is done, or is left still, or was done and is
pub done_in_turn : (here later any old new : Bool) → any ≡ (here || later) → (IsTrue here → IsTrue new) → (IsTrue old → IsTrue new) →
    IsTrue (any || old) → IsTrue (later || new)
done_in_turn here true any old new is now stays so_far = refl
done_in_turn true false any old new is now stays so_far = now refl
done_in_turn false false true old new is now stays so_far = cc
done_in_turn false false false old new is now stays so_far = stays so_far

pub and-both : (a b : Bool) → IsTrue a → IsTrue b → IsTrue (a && b)
and-both true b it holds = holds
and-both false b never holds = never
