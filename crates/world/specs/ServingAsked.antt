-- Serving a device that asks its drivers for notifications. It serves what there is, and asks each driver for its next chain.
-- Then it serves what came before the driver could see that, and asks again, until nothing came (VIRTIO 1.2, 2.7.10 and 2.8.10).
use Rattle.std.specs.Prelude.{ℕ, zero, suc, ◌≡◌, ◌+◌, ◌-◌, ◌≤◌, Bool, true, false, List, [], ◌∷◌, length, Result, Ok, Err}
use Rattle.std.specs.List.{sum_by}
use Rattle.foundation.specs.declared.NoMemory.{NoMemory}
use Rattle.ring_core.specs.Writes.{Write}
use Rattle.ring_core.specs.declared.asking.Notify.TheVariants.{Next}
use Rattle.device_model.specs.World.{PlainWorld}
use Rattle.device_steps.specs.Asking.{asking_at}
use Rattle.device_steps.specs.Settling.{asks}
use Rattle.world.specs.Asking.{Asks, AsksAsPromised, AsksLive, AsksPromised}
use Rattle.world.specs.LiveServing.{ServesLiveOrWants, ServesPromised, ServeStores}
use Rattle.world.specs.LiveWorld.{PlainLive}
use Rattle.world.specs.Promise.{ServesAsPromised}
use Rattle.world.specs.Settling.{ServesSomeOrWants}
use Rattle.world.specs.declared.served.Served.{Served}

-- the drivers of the first so many queues were asked, one after another: of those that are served, and no others
abbrev pub AsksIf : {S : Type 0} → (ℕ → S → S → Type 0) → Bool → ℕ → S → S → Type 0
AsksIf {S} AsksOne true q x y = AsksOne q x y
AsksIf {S} AsksOne false q x y = y ≡ x

abbrev pub AsksBelow : {S : Type 0} → (ℕ → S → S → Type 0) → (ℕ → Bool) → ℕ → S → S → Type 0
AsksBelow {S} AsksOne asked zero x y = y ≡ x
AsksBelow {S} AsksOne asked (suc q) x y = (z : S) × AsksBelow AsksOne asked q x z × AsksIf AsksOne (asked q) q z y

-- a round: so many steps were taken, until nothing was left, and behind them the drivers were asked
pub record Round {S : Type 0} (Serves : ℕ → S → Result Served NoMemory → S → Type 0) (AsksAll : S → S → Type 0) (x : S)
    (most count : ℕ) (y : S) : Type 0 where
  pub behind : S
  pub told : Served
  pub serves : Serves most x (Ok told) behind
  pub counted : told.steps ≡ count
  pub none : told.more ≡ false
  pub asks : AsksAll behind y

abbrev pub all_steps : List ℕ → ℕ
all_steps rounds = sum_by (λ (n : ℕ). n) rounds

-- the steps of rounds, the newest first, at most so many in all
abbrev pub Rounds : {S : Type 0} → (ℕ → S → Result Served NoMemory → S → Type 0) → (S → S → Type 0) → S → ℕ → List ℕ → S
    → Type 0
Rounds {S} Serves AsksAll x most [] y = y ≡ x
Rounds {S} Serves AsksAll x most (count ∷ past) y =
    (z : S) × Rounds Serves AsksAll x most past z × Round Serves AsksAll z (most - all_steps past) count y

-- rounds, and what was served behind them: either an event is next; or nothing is left, and nothing came since the drivers
-- were asked
pub record ServesAsked {S : Type 0} (Serves : ℕ → S → Result Served NoMemory → S → Type 0) (AsksAll : S → S → Type 0) (x : S)
    (most : ℕ) (s : Served) (y : S) : Type 0 where
  pub rounds : List ℕ
  pub behind : S
  pub took : Rounds Serves AsksAll x most rounds behind
  pub told : Served
  pub serves : Serves (most - all_steps rounds) behind (Ok told) y
  pub counted : s.steps ≡ all_steps rounds + told.steps
  pub few : s.steps ≤ most
  pub more : s.more ≡ told.more
  pub asked : s.more ≡ false → (1 ≤ length rounds) × (told.steps ≡ 0)

-- rounds, and behind them memory was refused for what was first
pub record ServesAskedUntilRefused {S : Type 0} (Serves : ℕ → S → Result Served NoMemory → S → Type 0)
    (AsksAll : S → S → Type 0) (x : S) (most : ℕ) (fault : NoMemory) (y : S) : Type 0 where
  pub rounds : List ℕ
  pub behind : S
  pub took : Rounds Serves AsksAll x most rounds behind
  pub few : all_steps rounds ≤ most
  pub serves : Serves (most - all_steps rounds) behind (Err fault) y

abbrev pub ServesAskedOrWants : {S : Type 0} → (ℕ → S → Result Served NoMemory → S → Type 0) → (S → S → Type 0) → S → ℕ
    → Result Served NoMemory → S → Type 0
ServesAskedOrWants {S} Serves AsksAll x most (Ok s) y = ServesAsked Serves AsksAll x most s y
ServesAskedOrWants {S} Serves AsksAll x most (Err fault) y = ServesAskedUntilRefused Serves AsksAll x most fault y

-- In a memory of the device's own

-- as `World::serve`
abbrev pub ServesWhole : ℕ → ℕ → PlainWorld → Result Served NoMemory → PlainWorld → Type 0
ServesWhole queues most w r w' = ServesSomeOrWants (asks queues) most w r w' × ServesAsPromised (asks queues) w r w'

-- as `World::ask` for the next chain
abbrev pub AsksNext : ℕ → PlainWorld → PlainWorld → Type 0
AsksNext q w w' = (told : Bool) × Asks w (asking_at w.queues q Next) told w' × AsksAsPromised w (asking_at w.queues q Next) w'

abbrev pub AsksDrivers : ℕ → PlainWorld → PlainWorld → Type 0
AsksDrivers queues w w' = AsksBelow AsksNext (asks queues) (length w.queues) w w'

-- In a memory that its guest writes at any time

-- as `LiveWorld::serve`
abbrev pub ServesWholeLive : {X : Type 0} → Bool → (X → X → Type 0) → (X → List ℕ → Type 0) → (X → X → List Write → Type 0)
    → (X → ℕ) → ℕ → ℕ → PlainLive X → Result Served NoMemory → PlainLive X → Type 0
ServesWholeLive {X} shared begins may_be stored extent queues most x r y =
    ServesLiveOrWants shared begins may_be stored (asks queues) x most r y
    × ServesPromised (asks queues) shared (extent x.memory) x.device r y.device
    × ServeStores (stored x.memory y.memory) (asks queues) shared (extent x.memory) x.device r y.device

-- as `LiveWorld::ask` for the next chain
abbrev pub AsksNextLive : {X : Type 0} → Bool → (X → X → Type 0) → (X → List ℕ → Type 0) → (X → X → List Write → Type 0)
    → (X → ℕ) → ℕ → PlainLive X → PlainLive X → Type 0
AsksNextLive {X} shared begins may_be stored extent q x y = (told : Bool)
    × AsksLive shared begins may_be stored x (asking_at x.device.queues q Next) told y
    × AsksPromised shared (extent x.memory) x.device (asking_at x.device.queues q Next) y.device

abbrev pub AsksDriversLive : {X : Type 0} → Bool → (X → X → Type 0) → (X → List ℕ → Type 0) → (X → X → List Write → Type 0)
    → (X → ℕ) → ℕ → PlainLive X → PlainLive X → Type 0
AsksDriversLive {X} shared begins may_be stored extent queues x y =
    AsksBelow (AsksNextLive shared begins may_be stored extent) (asks queues) (length x.device.queues) x y
