-- Runs of the device by settling.
use Rattle.std.proofs.Common.{◌≡◌, ℕ, zero, suc, ◌+◌, Bool, List, [], ◌∷◌, ◌++◌, length, Some, refl, sym, ap, subst, ◌∙◌, arith}
use Rattle.std.specs.Prelude.{◌<◌, slice_get, get_or}
use Rattle.std.proofs.lemmas.List.{length-append}
use Rattle.device_model.specs.World.{PlainWorld}
use Rattle.device_model.specs.Transitions.{Transition, event_of}
use Rattle.device_model.specs.After.{after}
use Rattle.device_model.specs.Happens.{Happens, world_of}
use Rattle.device_model.specs.Order.{IsNextOf}
use Rattle.device_model.specs.Settling.{SettlesOf}
use Rattle.device_steps.specs.Settling.{ServesBy}
use Rattle.device_steps.specs.Inner.Cursors.{StepsNext}
use Rattle.device_steps.specs.declared.cursor.Cursor.{Cursor}

pub next_length : (k n : ℕ) → k ≡ n → suc k ≡ n + 1
next_length k n e = omega (arith, e)

-- where more transitions lead to
world_on : (w : PlainWorld) (ds es : List Transition) → world_of (world_of w ds) es ≡ world_of w (es ++ ds)
world_on w ds [] = refl
world_on w ds (e ∷ es) = ap (λ z. after e z) (world_on w ds es)

-- one transition more that was first
abbrev pub serves_on : (asked : ℕ → Bool) (w v : PlainWorld) (n : ℕ) (u : PlainWorld) (d : Transition) → ServesBy asked w n v → Happens d v
    → IsNextOf asked v (event_of d) → u ≡ after d v → ServesBy asked w (n + 1) u
serves_on asked w v n u d r h next is =
    record {
      transitions = d ∷ r.transitions;
      settles = (
        r.settles,
        subst (λ z. Happens d z) r.is h,
        subst (λ z. IsNextOf asked z (event_of d)) r.is next,
      );
      is = is ∙ ap (λ z. after d z) r.is;
      counted = next_length (length r.transitions) n r.counted;
    }

-- more transitions behind those that settled
settles_on : (asked : ℕ → Bool) (w : PlainWorld) (ds es : List Transition) → SettlesOf asked w ds → SettlesOf asked (world_of w ds) es → SettlesOf asked w (es ++ ds)
settles_on asked w ds [] h k = h
settles_on asked w ds (e ∷ es) h k = (
  settles_on asked w ds es h k.0,
  subst (λ z. Happens e z) (world_on w ds es) k.1,
  subst (λ z. IsNextOf asked z (event_of e)) (world_on w ds es) k.2,
)

-- what was served, and more that was
pub serves_more : (asked : ℕ → Bool) (w v u : PlainWorld) (n m : ℕ) → ServesBy asked w n v → ServesBy asked v m u → ServesBy asked w (n + m) u
serves_more asked w v u n m r s =
    let settled : SettlesOf asked (world_of w r.transitions) s.transitions = subst (λ z. SettlesOf asked z s.transitions) r.is s.settles in
    record {
      transitions = s.transitions ++ r.transitions;
      settles = settles_on asked w r.transitions s.transitions r.settles settled;
      is = s.is ∙ ap (λ z. world_of z s.transitions) r.is ∙ world_on w r.transitions s.transitions;
      counted = omega (arith, length-append s.transitions r.transitions, r.counted, s.counted);
    }

-- nothing was served yet
abbrev pub serves_none : (asked : ℕ → Bool) (w : PlainWorld) → ServesBy asked w 0 w
serves_none asked w = record { transitions = []; settles = tt; is = refl; counted = refl }

-- one transition
abbrev pub serves_one : (asked : ℕ → Bool) (Q : Transition → Type 0) (w : PlainWorld) (c : Cursor) (u : PlainWorld)
    → StepsNext asked Q w c u → ServesBy asked w 1 u
serves_one asked Q w c u t = serves_on asked w w 0 u t.0 (serves_none asked w) t.1 t.2 t.3

-- one transition more
abbrev pub serves_next : (asked : ℕ → Bool) (Q : Transition → Type 0) (w v : PlainWorld) (n : ℕ) (c : Cursor) (u : PlainWorld)
    → ServesBy asked w n v → StepsNext asked Q v c u → ServesBy asked w (n + 1) u
serves_next asked Q w v n c u r t = serves_on asked w v n u t.0 r t.1 t.2 t.3

-- what is read from a list stands there
pub read_there : {X : Type 0} (xs : List X) (k : ℕ) (x : X) → k < length xs → x ≡ get_or xs k x → slice_get xs k ≡ Some x
read_there [] k x lt e = absurd (omega (arith, lt))
read_there (y ∷ xs) zero x lt e = ap (λ z. Some z) (sym e)
read_there (y ∷ xs) (suc k) x lt e = read_there xs k x (omega (arith, lt)) e
