-- Which queues are marked, once one more stands before them.
use Rattle.std.proofs.Common.{◌≡◌, ◌==◌, ◌≤◌, ◌+◌, ◌-◌, ◌*◌, ◌/◌, ◌%◌, ◌↔◌, ℕ, zero, suc, Bool, true, false, List, [], ◌∷◌, length, take, drop, get_or, refl, sym, ap, ◌∙◌, subst, arith}
use Rattle.std.specs.Prelude.{IsTrue, Some, slice_get}
use Rattle.std.specs.Int.{bit_at}
use Rattle.std.proofs.Math.Seq.{take-length}
use Rattle.std.proofs.lemmas.Nat.Bits.{bit_at_lowest, bit_at-suc}
use Rattle.ring_core.specs.declared.layout.Layout.{Layout}
use Rattle.device_steps.specs.Settling.{asks}
use Rattle.c_calls.specs.Mapped.{IsMapped, AreMarked}
use Rattle.c_calls.specs.declared.region.Region.{Region}
use mir.Val.{bool_byte}

lowest : (b : Bool) (n : ℕ) → asks (2 * n + bool_byte b) 0 ≡ b
lowest true n = let odd : (2 * n + 1) % 2 ≡ 1 = omega arith in ap (λ x. x == 1) (bit_at_lowest (2 * n + 1) ∙ odd)
lowest false n = let even : (2 * n + 0) % 2 ≡ 0 = omega arith in ap (λ x. x == 1) (bit_at_lowest (2 * n + 0) ∙ even)

higher : (b : Bool) (n k : ℕ) → asks (2 * n + bool_byte b) (suc k) ≡ asks n k
higher true n k =
    let half : (2 * n + 1) / 2 ≡ n = omega arith in ap (λ x. x == 1) (bit_at-suc (2 * n + 1) k ∙ ap (λ x. bit_at x k) half)
higher false n k =
    let half : (2 * n + 0) / 2 ≡ n = omega arith in ap (λ x. x == 1) (bit_at-suc (2 * n + 0) k ∙ ap (λ x. bit_at x k) half)

before : (regions : List Region) (packed : Bool) (l : Layout) (ls : List Layout) (b : Bool) (bits : ℕ)
    → (IsTrue b) ↔ IsMapped regions packed l → AreMarked regions packed ls bits
    → AreMarked regions packed (l ∷ ls) (2 * bits + bool_byte b)
before regions packed l ls b bits here there zero m e =
    let same : l ≡ m = cc in (
      λ set. subst (λ x. IsMapped regions packed x) same (here.0 (sym (lowest b bits) ∙ set)),
      λ is. lowest b bits ∙ here.1 (subst (λ x. IsMapped regions packed x) (sym same) is),
    )
before regions packed l ls b bits here there (suc k) m e =
    subst (λ x. (x ≡ true) ↔ IsMapped regions packed m) (sym (higher b bits k)) (there k m e)

pub marked : (regions : List Region) (packed : Bool) (ls : List Layout) (none : Layout) (b : Bool) (bits : ℕ) → 1 ≤ length ls
    → (IsTrue b) ↔ IsMapped regions packed (get_or ls 0 none)
    → AreMarked regions packed (take (length ls - 1) (drop 1 ls)) bits → AreMarked regions packed ls (2 * bits + bool_byte b)
marked regions packed [] none b bits long here there = absurd (omega (arith, long))
marked regions packed (l ∷ ls) none b bits long here there =
    let all : take (length (l ∷ ls) - 1) ls ≡ ls =
    let less : length (l ∷ ls) - 1 ≡ length ls = omega arith in ap (λ n. take n ls) less ∙ take-length ls in
    before regions packed l ls b bits here (subst (λ xs. AreMarked regions packed xs bits) all there)
