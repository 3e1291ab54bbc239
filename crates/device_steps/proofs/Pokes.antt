-- What a write of the guest does is a turn of its event.
use Rattle.std.proofs.Common.{◌≡◌, ◌↔◌, ℕ, Bool, true, false, List, [], ◌∷◌, ◌++◌, length, Result, Ok, Err, OnOk, OnErr, IsOk, is_ok, refl, sym, ap, ◌∙◌, subst}
use Rattle.std.specs.Prelude.{IsTrue}
use Rattle.guest_mem.specs.Memory.{LiesIn, with_bytes}
use Rattle.guest_mem.specs.Stores.{Store, stores_at}
use Rattle.ring_core.specs.Writes.{Write, stores_of}
use Rattle.device_model.specs.World.{PlainWorld}
use Rattle.device_model.specs.Events.{Event}
use Rattle.device_model.specs.Transitions.{Transition}
use Rattle.device_model.specs.Turns.{Turns}

-- the world with this memory
abbrev with_memory : List ℕ → PlainWorld → PlainWorld
with_memory m w = record w { memory = m }

-- no error is a value
error_or_value : false ≡ true → ⊥
error_or_value e = cc

-- what a write answers, and leaves, is a turn of its event
pub poke_turns : {T E : Type 0} (w : PlainWorld) (x : Write) (m : List ℕ) (written : Result T E) (r : Bool)
    → (IsOk written ↔ LiesIn (length w.memory) x.addr (length x.bytes))
    → OnOk written (m ≡ with_bytes w.memory x.addr x.bytes) → OnErr written (m ≡ w.memory) → r ≡ is_ok written
    → Turns w (Event.Poke x) r (with_memory m w)
poke_turns w x m (Ok z) true inside ok err is =
    (Transition.Poke x, refl, inside.0 refl, ap (λ m. with_memory m w) ok)
poke_turns w x m (Ok z) false inside ok err is = absurd (error_or_value is)
poke_turns w x m (Err e) true inside ok err is = absurd (error_or_value (sym is))
poke_turns w x m (Err e) false inside ok err is =
    (ap (λ m. with_memory m w) err, λ lies. error_or_value (inside.1 lies))

truth : IsTrue true
truth = refl

no_truth : IsTrue false → ⊥
no_truth e = absurd (cc)

-- bytes lie inside as a test says, and the test isn't negated
pub lies_at : (extent size addr many : ℕ) (b : Bool) → size ≡ extent → (IsTrue b ↔ LiesIn size addr many) → b ≡ true
    → LiesIn extent addr many
lies_at extent size addr many b e is on = subst (λ n. LiesIn n addr many) e (is.0 (subst (λ z. IsTrue z) (sym on) truth))

pub lies_not : (extent size addr many : ℕ) (b : Bool) → size ≡ extent → (IsTrue b ↔ LiesIn size addr many) → b ≡ false
    → LiesIn extent addr many → ⊥
lies_not extent size addr many b e is off lies =
    no_truth (subst (λ z. IsTrue z) off (is.1 (subst (λ n. LiesIn n addr many) (sym e) lies)))

-- one write stores its bytes
append_none : {X : Type 0} (xs : List X) → xs ++ [] ≡ xs
append_none [] = refl
append_none (x ∷ xs) = ap (λ l. x ∷ l) (append_none xs)

pub one_stored : {S : Type 0} (storing : S → List Store → S) (s s' : S) (x : Write) → s' ≡ storing s (stores_at x.addr x.bytes)
    → s' ≡ storing s (stores_of (x ∷ []))
one_stored storing s s' x is = is ∙ ap (λ (ss : List Store). storing s ss) (sym (append_none (stores_at x.addr x.bytes)))
