-- Serving a device on a memory that its guest writes at any time: in rounds, each in a phase of its own, and of queues of its
-- own.
use Rattle.std.specs.Prelude.{ℕ, ◌≡◌, ◌≤◌, ◌<◌, ◌+◌, ◌⊎◌, ◌^◌, Bool, true, false, if◌then◌else◌, List, [], ◌∷◌, length, map, Result, Ok, Err}
use Rattle.std.specs.List.{sum_by}
use Rattle.foundation.specs.declared.NoMemory.{NoMemory}
use Rattle.ring_core.specs.Writes.{Write}
use Rattle.device_model.specs.World.{PlainWorld}
use Rattle.device_model.specs.Events.{Event}
use Rattle.device_model.specs.Transitions.{event_of}
use Rattle.device_model.specs.Order.{IsNextOf, IsQuiet, IsQuietOf, IsAtRest, IsAtRestOf}
use Rattle.device_model.specs.Live.{Turn, with_memory, live_world, transition_at, LiveSettlesOf, IsShortLive}
use Rattle.device_steps.specs.Apart.{PlainDevice, standing}
use Rattle.device_steps.specs.Settling.{order_for, MayWantFirst}
use Rattle.device_steps.specs.Serving.{ServesInPhase}
use Rattle.world.specs.LiveWorld.{PlainLive, GoesOnFrom, writes_along}
use Rattle.world.specs.declared.served.Served.{Served}

-- What a phase finds

-- nothing was changed or stored in a phase of its own, by which this holds whichever bytes may stand in memory
pub record Looks {X : Type 0} (shared : Bool) (begins : X → X → Type 0) (may_be : X → List ℕ → Type 0)
    (stored : X → X → List Write → Type 0) (P : PlainWorld → Type 0) (x y : PlainLive X) : Type 0 where
  pub begun : X
  pub begins_so : begins x.memory begun
  pub same : y.device ≡ x.device
  pub stays : (m : List ℕ) → may_be y.memory m → may_be begun m
  pub stores : stored x.memory y.memory []
  pub finds : (m : List ℕ) → may_be y.memory m → P (standing shared m y.device)

-- an event is next
abbrev pub HasNext : (ℕ → Bool) → PlainWorld → Type 0
HasNext asked w = (e : Event) × IsNextOf asked w e

-- nothing is left but chains of the other queues that weren't accepted
abbrev pub HasNone : (ℕ → Bool) → PlainWorld → Type 0
HasNone asked w = IsQuietOf asked w × IsAtRestOf asked w

-- memory may be refused for what is first
abbrev pub WantsFirst : (ℕ → Bool) → PlainWorld → Type 0
WantsFirst asked w = MayWantFirst w (order_for asked w)

-- Round by round

-- a round: so many events, the queues that it asked for new chains, and whether these were all that the call asks
pub record LiveRound : Type 0 where
  pub steps : ℕ
  pub asks : ℕ → Bool
  pub all : Bool

-- it asked queues of the call alone, and all of them where it says so
pub record AsksWithin (asked : ℕ → Bool) (r : LiveRound) : Type 0 where
  pub within : (q : ℕ) → r.asks q ≡ true → asked q ≡ true
  pub all : r.all ≡ true → (q : ℕ) → r.asks q ≡ asked q

-- how many rounds in a row, up to the newest, which stands first, may have left out a queue of the call
abbrev pub narrow_rounds : List LiveRound → ℕ
narrow_rounds [] = 0
narrow_rounds (r ∷ past) = if r.all then 0 else narrow_rounds past + 1

-- so many events in a phase that began with the round, before which nothing was stored; or none, where a phase found nothing
-- left, or may be refused memory for what is first
abbrev pub RoundServes : {X : Type 0} → Bool → (X → X → Type 0) → (X → List ℕ → Type 0) → (X → X → List Write → Type 0)
    → (ℕ → Bool) → PlainLive X → ℕ → PlainLive X → Type 0
RoundServes {X} shared begins may_be stored asks x count y =
    ((begun : X) × begins x.memory begun × stored x.memory begun []
    × ServesInPhase shared may_be stored asks begun x.device count y.memory y.device)
    ⊎ ((count ≡ 0) × (Looks shared begins may_be stored (HasNone asks) x y
    ⊎ Looks shared begins may_be stored (WantsFirst asks) x y))

-- these rounds, the newest first; of 16 in a row one at least asked all queues of the call
abbrev pub ServesRounds : {X : Type 0} → Bool → (X → X → Type 0) → (X → List ℕ → Type 0) → (X → X → List Write → Type 0)
    → (ℕ → Bool) → PlainLive X → List LiveRound → PlainLive X → Type 0
ServesRounds {X} shared begins may_be stored asked x [] y = y ≡ x
ServesRounds {X} shared begins may_be stored asked x (r ∷ past) y =
    (z : PlainLive X) × ServesRounds shared begins may_be stored asked x past z × AsksWithin asked r
    × (narrow_rounds (r ∷ past) ≤ 15) × RoundServes shared begins may_be stored r.asks z r.steps y

-- so many events in all
pub record ServesLiveBy {X : Type 0} (shared : Bool) (begins : X → X → Type 0) (may_be : X → List ℕ → Type 0)
    (stored : X → X → List Write → Type 0) (asked : ℕ → Bool) (x : PlainLive X) (count : ℕ) (y : PlainLive X) : Type 0 where
  pub rounds : List LiveRound
  pub serves : ServesRounds shared begins may_be stored asked x rounds y
  pub counted : sum_by (λ (r : LiveRound). r.steps) rounds ≡ count

-- served so far, at most so many events: either all were taken and an event is next, or nothing is left
pub record ServesLive {X : Type 0} (shared : Bool) (begins : X → X → Type 0) (may_be : X → List ℕ → Type 0)
    (stored : X → X → List Write → Type 0) (asked : ℕ → Bool) (x : PlainLive X) (most : ℕ) (s : Served) (y : PlainLive X) : Type 0 where
  pub behind : PlainLive X
  pub serves : ServesLiveBy shared begins may_be stored asked x s.steps behind
  pub few : s.steps ≤ most
  pub left : s.more ≡ true → (s.steps ≡ most) × Looks shared begins may_be stored (HasNext asked) behind y
  pub none : s.more ≡ false → Looks shared begins may_be stored (HasNone asked) behind y

-- served until memory was refused for what was first
pub record ServesLiveUntilRefused {X : Type 0} (shared : Bool) (begins : X → X → Type 0) (may_be : X → List ℕ → Type 0)
    (stored : X → X → List Write → Type 0) (asked : ℕ → Bool) (x : PlainLive X) (most : ℕ) (y : PlainLive X) : Type 0 where
  pub behind : PlainLive X
  pub count : ℕ
  pub serves : ServesLiveBy shared begins may_be stored asked x count behind
  pub few : count < most
  pub wants : Looks shared begins may_be stored (WantsFirst asked) behind y

abbrev pub ServesLiveOrWants : {X : Type 0} → Bool → (X → X → Type 0) → (X → List ℕ → Type 0) → (X → X → List Write → Type 0)
    → (ℕ → Bool) → PlainLive X → ℕ → Result Served NoMemory → PlainLive X → Type 0
ServesLiveOrWants {X} shared begins may_be stored asked x most (Ok s) y = ServesLive shared begins may_be stored asked x most s y
ServesLiveOrWants {X} shared begins may_be stored asked x most (Err fault) y =
    ServesLiveUntilRefused shared begins may_be stored asked x most y

-- The promise

abbrev pub event_at : Turn → Event
event_at t = event_of (transition_at t)

-- With these bytes in memory before, and those behind: so many events, each with what stood in memory then, each next when
-- it was done, and no more than there was to do. A trace of them, with writes of the guest before the first and behind
-- each, goes on from the one device to the other, and the promise is kept
pub record GoesOnServed (asked : ℕ → Bool) (shared : Bool) (d : PlainDevice) (count : ℕ) (d' : PlainDevice)
    (a b : List ℕ) : Type 0 where
  pub turns : List Turn
  pub settles : LiveSettlesOf asked (standing shared a d) turns
  pub is : standing shared b d' ≡ with_memory b (live_world (standing shared a d) turns)
  pub counted : length turns ≡ count
  pub short : IsShortLive (standing shared a d) turns
  pub goes_on : GoesOnFrom shared d (map event_at turns) count d' a b

-- whatever bytes stand in a memory of this size before and behind
abbrev pub GoesOnServedLive : (ℕ → Bool) → Bool → ℕ → PlainDevice → ℕ → PlainDevice → Type 0
GoesOnServedLive asked shared size d count d' =
    (a b : List ℕ) → length a ≡ size → length b ≡ size → GoesOnServed asked shared d count d' a b

-- as many as were counted; or some, until memory was refused
abbrev pub ServesPromised : (ℕ → Bool) → Bool → ℕ → PlainDevice → Result Served NoMemory → PlainDevice → Type 0
ServesPromised asked shared size d (Ok s) d' = GoesOnServedLive asked shared size d s.steps d'
ServesPromised asked shared size d (Err fault) d' = (count : ℕ) × GoesOnServedLive asked shared size d count d'

-- Each queue, with no bound

-- the device asks each of its queues
abbrev pub AsksEach : (ℕ → Bool) → PlainDevice → Type 0
AsksEach asked d = (q : ℕ) → q < length d.queues → asked q ≡ true

-- nothing is left to do: then nothing is left to answer
abbrev pub HasNothing : PlainWorld → Type 0
HasNothing w = IsQuiet w × IsAtRest w

-- served until nothing is left to do
pub record SettlesLive {X : Type 0} (shared : Bool) (begins : X → X → Type 0) (may_be : X → List ℕ → Type 0)
    (stored : X → X → List Write → Type 0) (x : PlainLive X) (count : ℕ) (y : PlainLive X) : Type 0 where
  pub asked : ℕ → Bool
  pub each : AsksEach asked x.device
  pub behind : PlainLive X
  pub serves : ServesLiveBy shared begins may_be stored asked x count behind
  pub none : Looks shared begins may_be stored HasNothing behind y

-- served until memory was refused for what was first, or all events that can be counted were taken
pub record SettlesLiveInPart {X : Type 0} (shared : Bool) (begins : X → X → Type 0) (may_be : X → List ℕ → Type 0)
    (stored : X → X → List Write → Type 0) (x : PlainLive X) (y : PlainLive X) : Type 0 where
  pub asked : ℕ → Bool
  pub each : AsksEach asked x.device
  pub behind : PlainLive X
  pub count : ℕ
  pub serves : ServesLiveBy shared begins may_be stored asked x count behind
  pub why : Looks shared begins may_be stored (WantsFirst asked) behind y
      ⊎ ((count + 1 ≡ 2 ^ 64) × Looks shared begins may_be stored (HasNext asked) behind y)

abbrev pub SettlesLiveOrWants : {X : Type 0} → Bool → (X → X → Type 0) → (X → List ℕ → Type 0)
    → (X → X → List Write → Type 0) → PlainLive X → Result ℕ NoMemory → PlainLive X → Type 0
SettlesLiveOrWants {X} shared begins may_be stored x (Ok count) y = SettlesLive shared begins may_be stored x count y
SettlesLiveOrWants {X} shared begins may_be stored x (Err fault) y = SettlesLiveInPart shared begins may_be stored x y

abbrev pub SettlesPromised : Bool → ℕ → PlainDevice → Result ℕ NoMemory → PlainDevice → Type 0
SettlesPromised shared size d (Ok count) d' =
    (asked : ℕ → Bool) × AsksEach asked d × GoesOnServedLive asked shared size d count d'
SettlesPromised shared size d (Err fault) d' =
    (asked : ℕ → Bool) × AsksEach asked d × ((count : ℕ) × GoesOnServedLive asked shared size d count d')

-- What it stores

-- whatever bytes stand before and behind, the trace that is promised of so many events made the very writes that were stored
abbrev pub StoresServed : (List Write → Type 0) → (ℕ → Bool) → Bool → ℕ → PlainDevice → ℕ → PlainDevice → Type 0
StoresServed stored asked shared size d count d' =
    (a b : List ℕ) → length a ≡ size → length b ≡ size
    → (on : GoesOnServed asked shared d count d' a b) × stored (writes_along on.goes_on.more)

-- as many as were counted; or some, until memory was refused
abbrev pub ServeStores : (List Write → Type 0) → (ℕ → Bool) → Bool → ℕ → PlainDevice → Result Served NoMemory → PlainDevice
    → Type 0
ServeStores stored asked shared size d (Ok s) d' = StoresServed stored asked shared size d s.steps d'
ServeStores stored asked shared size d (Err fault) d' = (count : ℕ) × StoresServed stored asked shared size d count d'

-- of each queue, with no bound
abbrev pub SettleStores : (List Write → Type 0) → Bool → ℕ → PlainDevice → Result ℕ NoMemory → PlainDevice → Type 0
SettleStores stored shared size d (Ok count) d' =
    (asked : ℕ → Bool) × AsksEach asked d × StoresServed stored asked shared size d count d'
SettleStores stored shared size d (Err fault) d' =
    (asked : ℕ → Bool) × AsksEach asked d × ((count : ℕ) × StoresServed stored asked shared size d count d')
