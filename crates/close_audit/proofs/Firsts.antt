-- The first ticket of two tests, and of a test that is another.
use Rattle.std.proofs.Common.{◌≡◌, ℕ, ◌<◌, Bool, true, false, ◌&&◌, ◌||◌, cond, ltb, eqb, Option, Some, None, refl, ap, ◌∙◌, arith}
use Rattle.std.proofs.lemmas.Bool.Decides.{nat_tests}
use Rattle.ring_core.specs.declared.log.Ticket.{Ticket}
use Rattle.close_audit.specs.Words.{is_before}
use Rattle.close_audit.specs.Closed.{IsFirst}
use Rattle.close_audit.specs.Inner.Tallies.{lesser_of}
use Rattle.close_audit.proofs.Bools.{or_true}

abbrev before : ℕ → ℕ → ℕ → ℕ → Bool
before q m r n = ltb q r || (eqb q r && ltb m n)

trans : (q m r n s o : ℕ) → before q m r n ≡ true → before r n s o ≡ true → before q m s o ≡ true
trans q m r n s o e f = grind (arith, nat_tests)

past : (q m r n s o : ℕ) → before q m r n ≡ true → before s o r n ≡ false → before q m s o ≡ true
past q m r n s o e f = grind (arith, nat_tests)

pub none_before_zero : (q m r : ℕ) → before q m r 0 ≡ true → eqb q r ≡ false
none_before_zero q m r e = grind (arith, nat_tests)

pub before_in : (q m r n : ℕ) → before q m r n ≡ true → eqb q r ≡ true → m < n
before_in q m r n e f = grind (arith, nat_tests)

pub before_self : (q m : ℕ) → before q m q m ≡ false
before_self q m = grind (arith, nat_tests)

pub before_trans : (a b c : Ticket) → is_before a b ≡ true → is_before b c ≡ true → is_before a c ≡ true
before_trans a b c e f = trans a.queue a.number b.queue b.number c.queue c.number e f

both_off : (a b : Bool) → a ≡ false → b ≡ false → (a || b) ≡ false
both_off a b e f = ap (λ c. c || b) e ∙ f

pub same_first : (P Q : Ticket → Bool) (r : Option Ticket) → ((t : Ticket) → Q t ≡ P t) → IsFirst P r → IsFirst Q r
same_first P Q None same is = λ t. same t ∙ is t
same_first P Q (Some t) same is = (same t ∙ is.0, λ u b. same u ∙ is.1 u b)

pub lesser_first : (P Q : Ticket → Bool) (a b : Option Ticket) → IsFirst P a → IsFirst Q b → IsFirst (λ t. P t || Q t) (lesser_of a b)
lesser_first P Q None None p q = λ t. both_off (P t) (Q t) (p t) (q t)
lesser_first P Q None (Some u) p q = (ap (λ c. P u || c) q.0 ∙ or_true (P u), λ v b. both_off (P v) (Q v) (p v) (q.1 v b))
lesser_first P Q (Some t) None p q = (ap (λ c. c || Q t) p.0, λ v b. both_off (P v) (Q v) (p.1 v b) (q v))
lesser_first P Q (Some t) (Some u) p q =
    (elim (is_before u t) as (λ c. (is_before u t ≡ c) → IsFirst (λ v. P v || Q v) (cond c (Some u) (Some t))) [
      | true ↦ λ e. (
        ap (λ c. P u || c) q.0 ∙ or_true (P u),
        λ v b. both_off (P v) (Q v) (p.1 v (trans v.queue v.number u.queue u.number t.queue t.number b e)) (q.1 v b),
      )
      | false ↦ λ e. (
        ap (λ c. c || Q t) p.0,
        λ v b. both_off (P v) (Q v) (p.1 v b) (q.1 v (past v.queue v.number t.queue t.number u.queue u.number b e)),
      )
    ]) refl
