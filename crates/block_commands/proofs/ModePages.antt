-- Pages of a MODE SELECT, each in turn.
use Rattle.std.proofs.Common.{◌≡◌, ℕ, suc, ◌+◌, ◌-◌, ◌<◌, Bool, List, length, true, false, cond, eqb, refl, ap, ◌∙◌, arith, Ok, Err}
use Rattle.std.proofs.lemmas.Bool.Decides.{nat_tests}
use Rattle.sense.specs.declared.Sense.{Sense}
use Rattle.sense.specs.declared.SenseFormat.{SenseFormat}
use Rattle.command_model.specs.Data.{done}
use Rattle.command_model.specs.ModeLists.{behind_page, in_turn, pages_answer}

module _ (format : SenseFormat) (write_cache : Bool) (most i : ℕ) (rest : List ℕ) (more : i < most) where
  by_first : pages_answer format write_cache (most - i) rest
      ≡ cond (eqb (length rest) 0) done (in_turn (behind_page format write_cache rest) (λ later. pages_answer format write_cache (most - (i + 1)) later))
  by_first =
      let one : most - i ≡ suc (most - (i + 1)) = omega (arith, more) in
      ap (λ n. pages_answer format write_cache n rest) one

  pub pages-none : length rest ≡ 0 → pages_answer format write_cache (most - i) rest ≡ done
  pages-none none =
      let test : eqb (length rest) 0 ≡ true = grind (arith, nat_tests) in
      by_first ∙ rw test refl

  pub pages-refused : (s : Sense) → 0 < length rest → behind_page format write_cache rest ≡ Err s → pages_answer format write_cache (most - i) rest ≡ Err s
  pages-refused s some refused =
      let test : eqb (length rest) 0 ≡ false = grind (arith, nat_tests) in
      by_first ∙ rw (test, refused) refl

  pub pages-later : (later : List ℕ) → 0 < length rest → behind_page format write_cache rest ≡ Ok later →
      pages_answer format write_cache (most - i) rest ≡ pages_answer format write_cache (most - (i + 1)) later
  pages-later later some taken =
      let test : eqb (length rest) 0 ≡ false = grind (arith, nat_tests) in
      by_first ∙ rw (test, taken) refl
