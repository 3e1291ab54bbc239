-- What the device asks its drivers for: a write of its own, which answers nothing. So the trace has it as a Poke, the
-- event of every such write.
use Rattle.std.specs.Prelude.{ℕ, ◌≡◌, Bool, true, false, List, Option, Some, None, Ok}
use Rattle.ring_core.specs.Writes.{Write}
use Rattle.device_model.specs.World.{PlainWorld}
use Rattle.device_model.specs.Events.{Event}
use Rattle.device_model.specs.Turns.{Turns}
use Rattle.device_steps.specs.Apart.{PlainDevice}
use Rattle.world.specs.LiveWorld.{PlainLive, StepsLive, StepsPromised}
use Rattle.world.specs.Promise.{StepsAsPromised}

-- the write was made, and the call says so; or there is none, and nothing changed
abbrev pub Asks : PlainWorld → Option Write → Bool → PlainWorld → Type 0
Asks w (Some x) asked w' = (asked ≡ true) × Turns w (Event.Poke x) true w'
Asks w None asked w' = (asked ≡ false) × (w' ≡ w)

-- the promise is kept by what was asked
abbrev pub AsksAsPromised : PlainWorld → Option Write → PlainWorld → Type 0
AsksAsPromised w (Some x) w' = StepsAsPromised w (Event.Poke x) (Ok true) w'
AsksAsPromised w None w' = w' ≡ w

-- In a memory that its guest writes at any time

-- the write was made in a phase of its own, and the call says so; or there is none, and nothing changed
abbrev pub AsksLive : {X : Type 0} → Bool → (X → X → Type 0) → (X → List ℕ → Type 0) → (X → X → List Write → Type 0)
    → PlainLive X → Option Write → Bool → PlainLive X → Type 0
AsksLive {X} shared begins may_be stored x (Some write) asked y = (asked ≡ true)
    × StepsLive shared begins may_be stored x (Event.Poke write) (Ok true) y
AsksLive {X} shared begins may_be stored x None asked y = (asked ≡ false) × (y ≡ x)

-- the promise is kept by it, whatever bytes stand in memory
abbrev pub AsksPromised : Bool → ℕ → PlainDevice → Option Write → PlainDevice → Type 0
AsksPromised shared size d (Some write) d' = StepsPromised shared size d (Event.Poke write) (Ok true) d'
AsksPromised shared size d None d' = d' ≡ d
