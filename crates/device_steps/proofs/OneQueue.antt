-- A turn that asks one queue alone.
use Rattle.std.proofs.Common.{◌≡◌, ℕ, suc, ◌≤◌, Bool, true, List, [], length, Option, Some, None, Result, Ok, Err, refl, subst, arith}
use Rattle.foundation.specs.declared.NoMemory.{NoMemory}
use Rattle.ring_core.specs.Writes.{Write}
use Rattle.device_model.specs.World.{PlainWorld}
use Rattle.device_model.specs.Events.{Event}
use Rattle.device_model.specs.Applies.{Applies}
use Rattle.device_model.specs.Order.{IsQuietOf}
use Rattle.device_steps.specs.Apart.{PlainDevice, standing}
use Rattle.device_steps.specs.Inner.Cursors.{AsksOnly, AtEach, NoneBeforeFetch, NoFetchBelow, TurnsNextIn, FetchesOn}
use Rattle.device_steps.specs.declared.cursor.Progress.{Progress}
use Rattle.device_steps.proofs.Ordering.{none_left}
use Rattle.device_steps.proofs.Woken.{queue_wants}

-- no queue below it is asked
pub none_below : (asked : ℕ → Bool) (n : ℕ) (w : PlainWorld) → AsksOnly asked n → NoFetchBelow asked n w
none_below asked n w only = λ i lt on applies. let same = only.only i on in absurd (omega (arith, same, lt))

-- where it has no chain, nothing is left
pub none_of_one : (asked : ℕ → Bool) (n : ℕ) (w : PlainWorld) → AsksOnly asked n → NoneBeforeFetch w
    → (Applies w (Event.Fetch n) → ⊥) → IsQuietOf asked w
none_of_one asked n w only before none =
    none_left asked w before
    (λ i lt on applies. none (subst (λ (k : ℕ). Applies w (Event.Fetch k)) (only.only i on) applies))

-- where it isn't there, nothing is left either
pub none_there : (asked : ℕ → Bool) (n : ℕ) (w : PlainWorld) → AsksOnly asked n → NoneBeforeFetch w → length w.queues ≤ n
    → IsQuietOf asked w
none_there asked n w only before past =
    none_left asked w before (λ i lt on applies. let same = only.only i on in absurd (omega (arith, same, lt, past)))

-- its next chain is what is first
pub turn_of_one : {X : Type 0} (shared : Bool) (may_be : X → List ℕ → Type 0) (stored : X → X → List Write → Type 0)
    (asked : ℕ → Bool) (most n : ℕ) (x : X) (d : PlainDevice) (r : Result (Option Progress) NoMemory) (y : X) (d' : PlainDevice)
    → AsksOnly asked n → AtEach shared (may_be x) NoneBeforeFetch d → suc n ≤ length d.queues
    → FetchesOn shared may_be stored asked most n x d r y d' → TurnsNextIn shared may_be stored asked most x d r y d'
turn_of_one shared may_be stored asked most n x d (Ok (Some s)) y d' only before there h = h
turn_of_one shared may_be stored asked most n x d (Ok None) y d' only before there h = (
  h.0,
  λ m may.
      let f = h.1 m may in
      (f.0, none_of_one asked n (standing shared m d) only (before m f.0) (λ applies. f.1 only.on applies)),
  h.2,
)
turn_of_one shared may_be stored asked most n x d (Err e) y d' only before there h = (
  h.0,
  λ m may.
      let f = h.1 m may in (
        f.0,
        queue_wants asked (standing shared m d) n (before m f.0) (none_below asked n (standing shared m d) only) there f.1,
      ),
  h.2,
)
