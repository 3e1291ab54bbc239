-- The queues and units of a device that opens.
use Rattle.std.proofs.Common.{◌≡◌, ◌<◌, ℕ, List, [], ◌∷◌, Bool, false, Some, length, refl, zero, suc, ap, sym, ◌∙◌, subst, arith}
use Rattle.std.specs.Prelude.{slice_get}
use Rattle.std.proofs.lemmas.Option.{slice_get_within}
use Rattle.ring_core.specs.State.{opening}
use Rattle.ring_core.specs.declared.layout.Form.{Form}
use Rattle.ring_core.specs.declared.layout.Form.TheVariants.{Split, Packed}
use Rattle.ring_core.specs.declared.layout.Features.{Features}
use Rattle.ring_core.specs.declared.layout.Layout.{Layout}
use Rattle.virtqueue.specs.Queue.{opening_queue}
use Rattle.request_intake.specs.declared.inventory.UnitSpec.{UnitSpec}
use Rattle.unit_model.specs.Unit.{PlainUnit, is_backed}
use Rattle.device_model.proofs.Lists.{same}
use Rattle.device_opening.specs.Opening.{AreFresh}

-- a queue that opens has accepted nothing
pub none_accepted : (form : Form) (memory number : ℕ) (l : Layout) (features : Features)
    → (opening_queue form memory number l features).ring.log.accepted ≡ []
unfolding opening
none_accepted Split memory number l features = refl
none_accepted Packed memory number l features = refl

-- there is an item at each index below the length
stands_at : {X : Type 0} (xs : List X) (k : ℕ) → k < length xs → (x : X) × (slice_get xs k ≡ Some x)
stands_at [] k lt = absurd (omega (arith, lt))
stands_at (x ∷ xs) zero lt = (x, refl)
stands_at (x ∷ xs) (suc k) lt = stands_at xs k (omega (arith, lt))

-- of a unit no step was taken, and its disk isn't backed
abbrev pub IsFresh : PlainUnit → Type 0
IsFresh u = (u.steps ≡ []) × (is_backed u ≡ false)

-- so it is of units that open
pub no_steps : (keeps : Bool) (wanted : List UnitSpec) (units : List PlainUnit) → AreFresh keeps wanted units
    → (k : ℕ) (u : PlainUnit) → slice_get units k ≡ Some u → IsFresh u
no_steps keeps wanted units fresh k u at =
    let found = stands_at wanted k (omega (arith, slice_get_within units k u at, fresh.count)) in
    subst IsFresh (same (sym (fresh.each k found.0 found.1) ∙ at)) (refl, refl)

-- nor of the first of them and of the others
pub first_fresh : (now rest : List PlainUnit) (u : PlainUnit) → now ≡ u ∷ rest
    → ((k : ℕ) (v : PlainUnit) → slice_get now k ≡ Some v → IsFresh v)
    → IsFresh u × ((k : ℕ) (v : PlainUnit) → slice_get rest k ≡ Some v → IsFresh v)
first_fresh now rest u is fresh = (
  fresh 0 u (ap (λ (us : List PlainUnit). slice_get us 0) is),
  λ k v at. fresh (suc k) v (ap (λ (us : List PlainUnit). slice_get us (suc k)) is ∙ at),
)
