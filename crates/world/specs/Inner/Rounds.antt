-- A round of a device that is served in live memory.
use Rattle.std.specs.Prelude.{ℕ, ◌≡◌, ◌≤◌, ◌+◌, ◌<◌, Bool, true, false, List, [], length, map, Option, Some, None, Result, Ok, Err, ⊤}
use Rattle.foundation.specs.declared.NoMemory.{NoMemory}
use Rattle.ring_core.specs.Writes.{Write}
use Rattle.device_model.specs.World.{PlainWorld}
use Rattle.device_model.specs.Live.{Turn, live_world, occurrence_at, LiveSettlesOf}
use Rattle.device_steps.specs.Apart.{PlainDevice, standing}
use Rattle.world.specs.LiveWorld.{PlainLive, writes_along}
use Rattle.device_steps.specs.Serving.{ServesInPhase}
use Rattle.world.specs.LiveServing.{ServesLiveBy, RoundServes, narrow_rounds, Looks, HasNext, HasNone, WantsFirst}
use Rattle.device_steps.specs.Inner.Cursors.{IsFetchPlace, NoneBefore}
use Rattle.device_steps.specs.declared.cursor.Progress.{Progress}
use Rattle.device_steps.specs.declared.cursor.Cursor.{Cursor}

-- so many events were done, and before a point none applies then, whatever stands in memory
pub record RoundsNext {X : Type 0} (shared : Bool) (begins : X → X → Type 0) (may_be : X → List ℕ → Type 0)
    (stored : X → X → List Write → Type 0) (asked : ℕ → Bool) (most : ℕ) (x : PlainLive X) (s : Progress) (y : PlainLive X) : Type 0 where
  pub some : 1 ≤ s.steps
  pub few : s.steps ≤ most
  pub begun : X
  pub begins_so : begins x.memory begun
  pub none : stored x.memory begun []
  pub serves : ServesInPhase shared may_be stored asked begun x.device s.steps y.memory y.device
  pub before : (m : List ℕ) → NoneBefore s.next (standing shared m y.device)

-- at least one was done; or nothing is left; or memory was refused for what is first
abbrev pub TurnsRound : {X : Type 0} → Bool → (X → X → Type 0) → (X → List ℕ → Type 0) → (X → X → List Write → Type 0)
    → (ℕ → Bool) → ℕ → PlainLive X → Result (Option Progress) NoMemory → PlainLive X → Type 0
TurnsRound {X} shared begins may_be stored asked most x (Ok (Some s)) y = RoundsNext shared begins may_be stored asked most x s y
TurnsRound {X} shared begins may_be stored asked most x (Ok None) y = Looks shared begins may_be stored (HasNone asked) x y
TurnsRound {X} shared begins may_be stored asked most x (Err fault) y = Looks shared begins may_be stored (WantsFirst asked) x y

-- an event is next, or nothing is left
abbrev pub LeavesBy : (ℕ → Bool) → Bool → PlainWorld → Type 0
LeavesBy asked true w = HasNext asked w
LeavesBy asked false w = HasNone asked w

-- from a device on so many events were done, each with what stood in memory then and next when it was done; what was stored
-- are their writes; and this is the device then, whose memory is as long as this
pub record SettledLive (asked : ℕ → Bool) (stored : List Write → Type 0) (shared : Bool) (size : ℕ) (w : PlainWorld) (count : ℕ)
    (d : PlainDevice) : Type 0 where
  pub turns : List Turn
  pub settles : LiveSettlesOf asked w turns
  pub stood : List ℕ
  pub long : length stood ≡ size
  pub is : live_world w turns ≡ standing shared stood d
  pub counted : length turns ≡ count
  pub stores : stored (writes_along (map occurrence_at turns))

-- a round goes on from each such, where it asks no other queues
abbrev pub SettlesNext : {X : Type 0} → (X → X → List Write → Type 0) → (ℕ → Bool) → Bool → ℕ → PlainLive X
    → Result (Option Progress) NoMemory → PlainLive X → Type 0
SettlesNext {X} stored asked shared size x (Ok (Some s)) y =
    (wide : ℕ → Bool) → ((q : ℕ) → asked q ≡ true → wide q ≡ true) → (first : X) (w : PlainWorld) (n : ℕ)
    → SettledLive wide (stored first x.memory) shared size w n x.device
    → SettledLive wide (stored first y.memory) shared size w (n + s.steps) y.device
SettlesNext {X} stored asked shared size x r y = ⊤

-- Rows of rounds that ask one queue alone

-- a round that asks this queue alone
abbrev pub RoundOn : {X : Type 0} → Bool → (X → X → Type 0) → (X → List ℕ → Type 0) → (X → X → List Write → Type 0)
    → ℕ → PlainLive X → ℕ → PlainLive X → Type 0
RoundOn {X} shared begins may_be stored number x count y =
    (asks : ℕ → Bool) × ((q : ℕ) → asks q ≡ true → q ≡ number) × RoundServes shared begins may_be stored asks x count y

-- rounds that ask this queue alone go on from each call that asks it and whose latest round asked all its queues
abbrev pub RowServes : {X : Type 0} → Bool → (X → X → Type 0) → (X → List ℕ → Type 0) → (X → X → List Write → Type 0)
    → ℕ → PlainLive X → ℕ → PlainLive X → Type 0
RowServes {X} shared begins may_be stored number x count y =
    (asked : ℕ → Bool) → asked number ≡ true → (first : PlainLive X) (n : ℕ)
    → (h : ServesLiveBy shared begins may_be stored asked first n x) → narrow_rounds h.rounds ≡ 0
    → ServesLiveBy shared begins may_be stored asked first (n + count) y

-- and from each settling of such a call
abbrev pub RowSettles : {X : Type 0} → (X → X → List Write → Type 0) → ℕ → Bool → ℕ → PlainLive X → ℕ → PlainLive X → Type 0
RowSettles {X} stored number shared size x count y =
    (asked : ℕ → Bool) → asked number ≡ true → (first : X) (w : PlainWorld) (n : ℕ)
    → SettledLive asked (stored first x.memory) shared size w n x.device
    → SettledLive asked (stored first y.memory) shared size w (n + count) y.device

-- behind so many events of a round that asked all queues of the call: so many in all, of it and the row
pub record RowBehind {X : Type 0} (shared : Bool) (begins : X → X → Type 0) (may_be : X → List ℕ → Type 0)
    (stored : X → X → List Write → Type 0) (asked : ℕ → Bool) (size : ℕ) (x : PlainLive X) (one all : ℕ) (y : PlainLive X) : Type 0 where
  pub serves : (first : PlainLive X) (n : ℕ) → (h : ServesLiveBy shared begins may_be stored asked first (n + one) x)
      → narrow_rounds h.rounds ≡ 0 → ServesLiveBy shared begins may_be stored asked first (n + all) y
  pub settles : (first : X) (w : PlainWorld) (n : ℕ) → SettledLive asked (stored first x.memory) shared size w (n + one) x.device
      → SettledLive asked (stored first y.memory) shared size w (n + all) y.device

-- a round of all queues and the row behind it go on from each call that asks these
pub record RowNext {X : Type 0} (shared : Bool) (begins : X → X → Type 0) (may_be : X → List ℕ → Type 0)
    (stored : X → X → List Write → Type 0) (asked : ℕ → Bool) (most : ℕ) (x : PlainLive X) (s : Progress) (y : PlainLive X) : Type 0 where
  pub some : 1 ≤ s.steps
  pub few : s.steps ≤ most
  pub serves : (first : PlainLive X) (n : ℕ) → ServesLiveBy shared begins may_be stored asked first n x
      → ServesLiveBy shared begins may_be stored asked first (n + s.steps) y
  pub before : (m : List ℕ) → NoneBefore s.next (standing shared m y.device)

-- at least one was done; or nothing is left; or memory was refused for what is first
abbrev pub TurnsRow : {X : Type 0} → Bool → (X → X → Type 0) → (X → List ℕ → Type 0) → (X → X → List Write → Type 0)
    → (ℕ → Bool) → ℕ → PlainLive X → Result (Option Progress) NoMemory → PlainLive X → Type 0
TurnsRow {X} shared begins may_be stored asked most x (Ok (Some s)) y = RowNext shared begins may_be stored asked most x s y
TurnsRow {X} shared begins may_be stored asked most x (Ok None) y = Looks shared begins may_be stored (HasNone asked) x y
TurnsRow {X} shared begins may_be stored asked most x (Err fault) y = Looks shared begins may_be stored (WantsFirst asked) x y

-- the queue is of the call, and nothing before a chain applies at the point
pub record IsRowOf (asked : ℕ → Bool) (next : Cursor) (number : ℕ) : Type 0 where
  pub few : number < 32
  pub on : asked number ≡ true
  pub place : IsFetchPlace next

-- it goes on from each settling of such a call
abbrev pub SettlesRow : {X : Type 0} → (X → X → List Write → Type 0) → (ℕ → Bool) → Bool → ℕ → PlainLive X
    → Result (Option Progress) NoMemory → PlainLive X → Type 0
SettlesRow {X} stored asked shared size x (Ok (Some s)) y =
    (first : X) (w : PlainWorld) (n : ℕ) → SettledLive asked (stored first x.memory) shared size w n x.device
    → SettledLive asked (stored first y.memory) shared size w (n + s.steps) y.device
SettlesRow {X} stored asked shared size x r y = ⊤
