-- Serving in one phase of a memory that others may write too: one event, or a request at once.
use Rattle.std.specs.Prelude.{ℕ, ◌≡◌, ◌+◌, ◌⊎◌, ◌++◌, Bool, List, [], ◌∷◌, Option, Some, None, ⊤}
use Rattle.std.specs.List.{AllByRecursion}
use Rattle.ring_core.specs.Writes.{Write}
use Rattle.device_model.specs.Parts.{Completion}
use Rattle.device_model.specs.World.{PlainWorld}
use Rattle.device_model.specs.Transitions.{Transition, event_of, action_of, completion_of}
use Rattle.device_model.specs.Waking.{IsFetch}
use Rattle.phases.specs.InMemory.{EachSeen, ByOneReading}
use Rattle.device_steps.specs.Apart.{PlainDevice, standing}
use Rattle.device_steps.specs.Settling.{ServesBy}

-- the notice of a completion is decided by this memory
abbrev pub IsNoticedBy : List ℕ → Option Completion → Type 0
IsNoticedBy seen (Some xs) = xs.seen ≡ seen
IsNoticedBy seen None = ⊤

abbrev pub CompletesNone : Transition → Type 0
CompletesNone t = completion_of t ≡ None

-- the notice of each completion was decided by this memory; where nothing was completed, memory was left so
pub record AreNoticed (ts : List Transition) (left seen : List ℕ) : Type 0 where
  pub each : AllByRecursion (λ t. IsNoticedBy seen (completion_of t)) ts
  pub none : AllByRecursion CompletesNone ts → seen ≡ left

-- the writes of transitions in their order, of which the newest stands first
abbrev pub writes_by : List Transition → List Write
writes_by [] = []
writes_by (t ∷ past) = writes_by past ++ (action_of t).writes

-- so many events were done, each the first that applied, with no write of the guest between them; and what was stored are
-- their writes
pub record ServesSeen (asked : ℕ → Bool) (stored : List Write → Type 0) (seen : List ℕ) (w : PlainWorld) (count : ℕ)
    (w' : PlainWorld) : Type 0 where
  pub serves : ServesBy asked w count w'
  pub notices : AreNoticed serves.transitions w'.memory seen
  pub stores : stored (writes_by serves.transitions)

abbrev pub TakesNoChain : Transition → Type 0
TakesNoChain t = IsFetch (event_of t) → ⊥

-- the same, and none of them took a chain
pub record FollowsSeen (asked : ℕ → Bool) (stored : List Write → Type 0) (seen : List ℕ) (w : PlainWorld) (count : ℕ)
    (w' : PlainWorld) : Type 0 where
  pub serves : ServesBy asked w count w'
  pub notices : AreNoticed serves.transitions w'.memory seen
  pub stores : stored (writes_by serves.transitions)
  pub no_chain : AllByRecursion TakesNoChain serves.transitions

-- whatever may be seen afterwards, it was done on a memory that may have been found
abbrev pub DoneIn : Bool → (List ℕ → Type 0) → (List ℕ → Type 0) → (List ℕ → PlainWorld → ℕ → PlainWorld → Type 0)
    → PlainDevice → ℕ → PlainDevice → Type 0
DoneIn shared before after Does d count d' =
    EachSeen shared before after (λ found left seen. Does seen (standing shared found d) count (standing shared left d'))

-- A request served at once: its chain was taken, whichever of the bytes that may stand there once it was read; and then
-- what follows of it was done, with no write of the guest between. Of the memory it is said what it may be, and what was
-- stored.
pub record TakesAndServes {X : Type 0} (shared : Bool) (may_be : X → List ℕ → Type 0) (stored : X → X → List Write → Type 0)
    (asked : ℕ → Bool) (x : X) (d : PlainDevice) (count : ℕ) (y : X) (d' : PlainDevice) : Type 0 where
  pub read : X
  pub taken : PlainDevice
  pub later : ℕ
  pub counted : count ≡ 1 + later
  pub stays : (m : List ℕ) → may_be read m → may_be x m
  pub takes : DoneIn shared (may_be x) (may_be read) (ServesSeen asked (stored x read)) d 1 taken
  pub follows : DoneIn shared (may_be read) (may_be y) (FollowsSeen asked (stored read y)) taken later d'

-- one event that takes no chain; a chain taken by one reading; or a request served at once
abbrev pub ServesInPhase : {X : Type 0} → Bool → (X → List ℕ → Type 0) → (X → X → List Write → Type 0) → (ℕ → Bool) → X
    → PlainDevice → ℕ → X → PlainDevice → Type 0
ServesInPhase {X} shared may_be stored asked x d count y d' =
    ((count ≡ 1) × DoneIn shared (may_be x) (may_be y) (FollowsSeen asked (stored x y)) d 1 d')
    ⊎ ((count ≡ 1) × ByOneReading shared may_be x y
    (λ found left seen. ServesSeen asked (stored x y) seen (standing shared found d) 1 (standing shared left d')))
    ⊎ TakesAndServes shared may_be stored asked x d count y d'
