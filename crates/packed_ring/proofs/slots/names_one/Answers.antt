use Rattle.std.proofs.Common.{◌≡◌, ◌≤◌, ◌<◌, ◌%◌, ◌/◌, ◌==◌, ◌∙◌, sym, arith, nat_le, false, true, ℕ, Bool, refl}
use Rattle.std.specs.Bool.{beq}
use Rattle.std.proofs.lemmas.Bool.Decides.{nat_tests}
use Rattle.ring_core.specs.Packed.{wrap_counter}
use Rattle.packed_ring.proofs.Named.{none_past, this_after, this_before, next_after}
use Rattle.packed_ring.proofs.slots.names_one.Goals as goal

same_bool : (a b : Bool) → beq a b ≡ true → a ≡ b
same_bool true true e = refl
same_bool true false e = cc
same_bool false true e = cc
same_bool false false e = refl

other_bool : (a b : Bool) → beq a b ≡ false → a ≡ b → ⊥
other_bool true true e f = cc
other_bool true false e f = cc
other_bool false true e f = cc
other_bool false false e f = cc

pub returns-then-offset-size : goal.returns-then-offset-size
returns-then-offset-size c = sym (none_past c.args.size c.args.offset_wrap c.args.passed c.args.slots c.requires.some c.requires.few (omega (arith, c.if-offset-size.true)))

pub returns-then-offset-first : goal.returns-then-offset-first
returns-then-offset-first c =
    let same : (c.args.offset_wrap / 32768 == 1) ≡ wrap_counter c.args.size c.args.passed = same_bool (c.args.offset_wrap / 32768 == 1) (wrap_counter c.args.size c.args.passed) (rw c.wrap_at.ensures at c.if-offset_wrap-wrap_at.true) in
    let le : c.args.passed % c.args.size ≤ c.args.offset_wrap % 32768 = rw c.slot_after-first.ensures at c.if-offset-first.true in
    rw c.slot_after-first.ensures
    (sym (this_after c.args.size c.args.offset_wrap c.args.passed c.args.slots c.requires.some c.requires.few (omega (arith, c.if-offset-size.false)) same le))

pub returns-else-offset-first : goal.returns-else-offset-first
returns-else-offset-first c =
    let same : (c.args.offset_wrap / 32768 == 1) ≡ wrap_counter c.args.size c.args.passed = same_bool (c.args.offset_wrap / 32768 == 1) (wrap_counter c.args.size c.args.passed) (rw c.wrap_at.ensures at c.if-offset_wrap-wrap_at.true) in
    let lt : c.args.offset_wrap % 32768 < c.args.passed % c.args.size = rw c.slot_after-first.ensures at c.if-offset-first.false in
    rw c.slot_after-first.ensures
    (below (c.args.passed % c.args.size) (c.args.offset_wrap % 32768) lt ∙ sym (this_before c.args.size c.args.offset_wrap c.args.passed c.args.slots c.requires.some c.requires.few same lt))
  where
    below : (a b : ℕ) → b < a → nat_le a b ≡ false
    below a b lt = grind (arith, nat_tests)

pub returns-else-offset_wrap-wrap_at : goal.returns-else-offset_wrap-wrap_at
returns-else-offset_wrap-wrap_at c =
    rw c.slot_after-first.ensures
    (sym (next_after c.args.size c.args.offset_wrap c.args.passed c.args.slots c.requires.some c.requires.few (omega (arith, c.if-offset-size.false)) (other_bool (c.args.offset_wrap / 32768 == 1) (wrap_counter c.args.size c.args.passed) (rw c.wrap_at.ensures at c.if-offset_wrap-wrap_at.false))))
