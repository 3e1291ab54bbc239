-- Where blocks beside a range agree.
use Rattle.std.proofs.Common.{◌≡◌, ℕ, zero, suc, ◌+◌, ◌-◌, ◌/◌, ◌%◌, ◌<◌, ◌≤◌, Bool, true, false, not, ◌&&◌, List, ◌++◌, length, take, drop, refl, sym, ◌∙◌, ap, arith}
use Rattle.std.proofs.lemmas.Bool.Decides.{nat_tests}
use Rattle.std.proofs.lemmas.List.{take_all, take-append-le}
use Rattle.std.proofs.Math.Seq.{drop-append-add}
use Rattle.std.specs.Prelude.{IsTrue, ◌↔◌, nat_lt, nat_le}
use Rattle.std.specs.Bool.{Decides}
use Rattle.block_store.specs.Blocks.{Blocks, is_within, run}
use Rattle.block_store.specs.Inner.Pages.{is_beside}
use Rattle.block_store.proofs.Runs.{run-same}
use Rattle.block_store.proofs.Within.{Standing, before, inside, behind, standing, is_within-before, is_within-inside, is_within-behind}

front : (a b : List ℕ) → length a ≡ 512 → take 512 (a ++ b) ≡ a
front a b size = take-append-le 512 a b (omega arith) ∙ take_all 512 a (omega arith)

back : (a b : List ℕ) → length a ≡ 512 → drop 512 (a ++ b) ≡ b
back a b size =
    let all : length a + 0 ≡ 512 = omega arith in
    sym (ap (λ i. drop i (a ++ b)) all) ∙ drop-append-add a b 0

-- equal runs have equal blocks
pub run-equal : (p q : Blocks) (first n : ℕ) → ((b : ℕ) → length (p b) ≡ 512) → ((b : ℕ) → length (q b) ≡ 512) →
    run p first n ≡ run q first n → (k : ℕ) → k < n → p (first + k) ≡ q (first + k)
run-equal p q first zero p_whole q_whole same k below = absurd (omega arith)
run-equal p q first (suc n) p_whole q_whole same zero below =
    let here : p first ≡ q first =
    sym (front (p first) (run p (first + 1) n) (p_whole first)) ∙ ap (λ l. take 512 l) same ∙ front (q first) (run q (first + 1) n) (q_whole first) in
    let position : first + 0 ≡ first = omega arith in
    ap p position ∙ here ∙ sym (ap q position)
run-equal p q first (suc n) p_whole q_whole same (suc k) below =
    let rest : run p (first + 1) n ≡ run q (first + 1) n =
    sym (back (p first) (run p (first + 1) n) (p_whole first)) ∙ ap (λ l. drop 512 l) same ∙ back (q first) (run q (first + 1) n) (q_whole first) in
    let position : first + suc k ≡ first + 1 + k = omega arith in
    ap p position ∙ run-equal p q (first + 1) n p_whole q_whole rest k (omega arith) ∙ sym (ap q position)

-- a range in which blocks are equal, by its run
pub runs-agree : (p q : Blocks) (first n : ℕ) → ((b : ℕ) → length (p b) ≡ 512) → ((b : ℕ) → length (q b) ≡ 512) →
    (run p first n ≡ run q first n) ↔ ((b : ℕ) → IsTrue (is_within first n b) → p b ≡ q b)
runs-agree p q first n p_whole q_whole = (forth, rearwards)
  where
    forth : run p first n ≡ run q first n → (b : ℕ) → IsTrue (is_within first n b) → p b ≡ q b
    forth same b within = at_standing (standing first n b)
      where
        at_standing : Standing first n b → p b ≡ q b
        at_standing (before low) = let no = rw (is_within-before first n b low) at within in cc
        at_standing (inside reaches short) =
            let position : first + (b - first) ≡ b = omega arith in
            sym (ap p position) ∙ run-equal p q first n p_whole q_whole same (b - first) (omega arith) ∙ ap q position
        at_standing (behind past) = let no = rw (is_within-behind first n b past) at within in cc

    rearwards : ((b : ℕ) → IsTrue (is_within first n b) → p b ≡ q b) → run p first n ≡ run q first n
    rearwards same = run-same p q first first n (λ k below. same (first + k) (is_within-inside first n (first + k) (omega arith) (omega arith)))

-- the same, where a test decides whether two lists that are the runs are equal
pub agree-by : (p q : Blocks) (first n : ℕ) (xs ys : List ℕ) (r : Bool) → ((b : ℕ) → length (p b) ≡ 512) → ((b : ℕ) → length (q b) ≡ 512) →
    xs ≡ run p first n → ys ≡ run q first n → Decides r (xs ≡ ys) →
    IsTrue r ↔ ((b : ℕ) → IsTrue (is_within first n b) → p b ≡ q b)
agree-by p q first n xs ys r p_whole q_whole xs_are ys_are decides = (
  (λ e. (runs-agree p q first n p_whole q_whole).0 (sym xs_are ∙ decides.0 e ∙ ys_are)),
  (λ same. decides.1 (xs_are ∙ (runs-agree p q first n p_whole q_whole).1 same ∙ sym ys_are)),
)

pub both : (a b : Bool) → (a && b) ≡ true → (a ≡ true) × (b ≡ true)
both true true e = (refl, refl)
both true false e = cc
both false b e = cc

pub both-true : (a b : Bool) → a ≡ true → b ≡ true → (a && b) ≡ true
both-true true true e f = refl
both-true true false e f = f
both-true false b e f = e

pub beside-low : (first count b : ℕ) → is_beside first count b ≡ true → first / 8 ≤ b / 8
beside-low first count b beside = grind (arith, nat_tests)

pub beside-high : (first count b : ℕ) → is_beside first count b ≡ true → b / 8 ≤ (first + count - 1) / 8
beside-high first count b beside = grind (arith, nat_tests)

pub beside-some : (first count b : ℕ) → is_beside first count b ≡ true → 0 < count
beside-some first count b beside = grind (arith, nat_tests)

pub beside-out : (first count b : ℕ) → is_beside first count b ≡ true → is_within first count b ≡ false
beside-out first count b beside = out (is_within first count b) (nat_lt 0 count && nat_le (first / 8) (b / 8)) (nat_le (b / 8) ((first + count - 1) / 8)) beside
  where
    out : (w a c : Bool) → ((a && c) && not w) ≡ true → w ≡ false
    out true true true e = cc
    out true true false e = cc
    out true false c e = cc
    out false a c e = refl

pub is_beside-yes : (first count b : ℕ) → 0 < count → first / 8 ≤ b / 8 → b / 8 ≤ (first + count - 1) / 8 → is_within first count b ≡ false → is_beside first count b ≡ true
is_beside-yes first count b some low high out = rw out (grind (arith, nat_tests))

-- where the parts before and behind a range agree, all that is beside it does
pub parts-agree : (p q : Blocks) (first count start head end tail : ℕ) (a b r : Bool) → r ≡ (a && b) → 0 < count →
    start ≡ first - first % 8 → head ≡ first % 8 → end ≡ first + count → tail ≡ (8 - (first + count) % 8) % 8 →
    (IsTrue a ↔ ((c : ℕ) → IsTrue (is_within start head c) → p c ≡ q c)) →
    (IsTrue b ↔ ((c : ℕ) → IsTrue (is_within end tail c) → p c ≡ q c)) →
    IsTrue r ↔ ((c : ℕ) → IsTrue (is_beside first count c) → p c ≡ q c)
parts-agree p q first count start head end tail a b r r_is some start_is head_is end_is tail_is by_head by_tail = (forth, rearwards)
  where
    forth : IsTrue r → (c : ℕ) → IsTrue (is_beside first count c) → p c ≡ q c
    forth e c beside = at_standing (standing first count c)
      where
        at_standing : Standing first count c → p c ≡ q c
        at_standing (before low) =
            let page : first / 8 ≤ c / 8 = beside-low first count c beside in
            by_head.0 (both a b (sym r_is ∙ e)).0 c (is_within-inside start head c (omega arith) (omega arith))
        at_standing (inside reaches short) =
            let out : is_within first count c ≡ false = beside-out first count c beside in
            let in_it : is_within first count c ≡ true = is_within-inside first count c reaches short in
            cc
        at_standing (behind past) =
            let page : c / 8 ≤ (first + count - 1) / 8 = beside-high first count c beside in
            by_tail.0 (both a b (sym r_is ∙ e)).1 c (is_within-inside end tail c (omega arith) (omega arith))

    rearwards : ((c : ℕ) → IsTrue (is_beside first count c) → p c ≡ q c) → IsTrue r
    rearwards same = r_is ∙ both-true a b (by_head.1 before_it) (by_tail.1 behind_it)
      where
        before_it : (c : ℕ) → IsTrue (is_within start head c) → p c ≡ q c
        before_it c within = at_standing (standing start head c)
          where
            at_standing : Standing start head c → p c ≡ q c
            at_standing (before low) = let no = rw (is_within-before start head c low) at within in cc
            at_standing (inside reaches short) =
                same c (is_beside-yes first count c some (omega arith) (omega arith) (is_within-before first count c (omega arith)))
            at_standing (behind past) = let no = rw (is_within-behind start head c past) at within in cc

        behind_it : (c : ℕ) → IsTrue (is_within end tail c) → p c ≡ q c
        behind_it c within = at_standing (standing end tail c)
          where
            at_standing : Standing end tail c → p c ≡ q c
            at_standing (before low) = let no = rw (is_within-before end tail c low) at within in cc
            at_standing (inside reaches short) =
                same c (is_beside-yes first count c some (omega arith) (omega arith) (is_within-behind first count c (omega arith)))
            at_standing (behind past) = let no = rw (is_within-behind end tail c past) at within in cc
