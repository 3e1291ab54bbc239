-- Rests on `specs/LiveWorld.antt`; no promise rests on it.
use Rattle.std.specs.Prelude.{ℕ, ◌≡◌, ◌+◌, Bool, if◌then◌else◌, List, [], ◌∷◌, length, map, Result, Ok, Err}
use Rattle.foundation.specs.declared.NoMemory.{NoMemory}
use Rattle.ring_core.specs.Writes.{Write}
use Rattle.device_model.specs.Events.{Event}
use Rattle.device_model.specs.Happens.{Occurrence}
use Rattle.device_model.specs.Turns.{count_changes}
use Rattle.device_model.specs.Live.{LiveRuns}
use Rattle.device_steps.specs.Apart.{PlainDevice, standing}
use Rattle.world.specs.LiveWorld.{PlainLive, writes_along}

-- `GoesOnFrom` as a run, which made these writes
pub record RanFrom (wrote : List Write → Type 0) (shared : Bool) (d : PlainDevice) (events : List Event) (count : ℕ)
    (d' : PlainDevice) (a b : List ℕ) : Type 0 where
  pub more : List Occurrence
  pub told : map (λ (o : Occurrence). o.event) more ≡ events
  pub counted : count_changes more ≡ count
  pub runs : LiveRuns (standing shared a d) more (standing shared b d')
  pub writes : wrote (writes_along more)

abbrev pub RanLive : (List Write → Type 0) → Bool → ℕ → PlainDevice → List Event → ℕ → PlainDevice → Type 0
RanLive wrote shared size d events count d' =
    (a b : List ℕ) → length a ≡ size → length b ≡ size → RanFrom wrote shared d events count d' a b

-- one event goes on from each run that leads to where it begins; or memory was refused for it, nothing changed, and nothing
-- was stored
abbrev pub StepRan : {X : Type 0} → (X → X → List Write → Type 0) → Bool → ℕ → PlainLive X → Event → Result Bool NoMemory
    → PlainLive X → Type 0
StepRan {X} stored shared size x e (Ok changed) y =
    (first : PlainLive X) (events : List Event) (count : ℕ)
    → RanLive (stored first.memory x.memory) shared size first.device events count x.device
    → RanLive (stored first.memory y.memory) shared size first.device (e ∷ events) (count + (if changed then 1 else 0)) y.device
StepRan {X} stored shared size x e (Err fault) y = (y.device ≡ x.device) × stored x.memory y.memory []
