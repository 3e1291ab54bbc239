-- How far along the order nothing applies.
use Rattle.std.specs.Prelude.{ℕ, zero, suc, ◌≡◌, ◌<◌, ◌≤◌, ◌⊎◌, Bool, true, false, List, [], ◌∷◌, length, Option, Some, None, Result, Ok, Err, ⊤}
use Rattle.foundation.specs.declared.NoMemory.{NoMemory}
use Rattle.ring_core.specs.Writes.{Write}
use Rattle.unit_model.specs.Jobs.{PlainJob}
use Rattle.device_model.specs.Parts.{Slot, Hand}
use Rattle.device_model.specs.World.{PlainWorld, owner}
use Rattle.device_model.specs.Events.{Event}
use Rattle.device_model.specs.Transitions.{Transition, event_of, action_of, completion_of}
use Rattle.device_model.specs.After.{after}
use Rattle.device_model.specs.Happens.{Happens, MayWant}
use Rattle.device_model.specs.Found.{SeatIs, OffIs}
use Rattle.device_model.specs.Applies.{Applies}
use Rattle.device_model.specs.Found.{SlotIs}
use Rattle.device_model.specs.Order.{of_seat, IsFirstOf, IsNextOf, NoneApplies, IsQuietOf}
use Rattle.phases.specs.InMemory.{EachSeen}
use Rattle.phases.specs.declared.serving.Brought.{Brought}
use Rattle.phases.specs.declared.serving.Brought.TheVariants as brought
use Rattle.phases.specs.EventsInMemory.{SeesBy}
use Rattle.device_steps.specs.Apart.{PlainDevice, standing, FitsIn}
use Rattle.device_steps.specs.Inner.Apart.{HasFew, IsSoundIn}
use Rattle.device_steps.specs.Sound.{IsWhole}
use Rattle.device_steps.specs.Inner.Sound.{IsSound}
use Rattle.device_steps.specs.Serving.{ServesInPhase}
use Rattle.device_steps.specs.Settling.{order_for, ServesBy, MayWantFirst}
use Rattle.device_steps.specs.declared.cursor.Progress.{Progress}
use Rattle.device_steps.specs.declared.cursor.Cursor.{Cursor}
use Rattle.device_steps.specs.declared.cursor.Cursor.TheVariants as cursor

-- a transition of the event was done, of which this holds
abbrev pub TurnsBy : (Transition → Type 0) → PlainWorld → Event → PlainWorld → Type 0
TurnsBy Q w e w' = (d : Transition) × (event_of d ≡ e) × Happens d w × (w' ≡ after d w) × Q d

-- the first of these events that applies was done, by a transition of which this holds
abbrev pub TurnsFirst : (Transition → Type 0) → List Event → PlainWorld → PlainWorld → Type 0
TurnsFirst Q xs w w' = (d : Transition) × Happens d w × IsFirstOf w xs (event_of d) × (w' ≡ after d w) × Q d

-- the events of the open function
abbrev pub of_function : List Event
of_function = Event.AnswerTmf ∷ Event.Check ∷ Event.Mark ∷ []

-- what comes first in the order: the function and the events that wait
pub record NoStart (w : PlainWorld) : Type 0 where
  pub function : NoneApplies w of_function
  pub waiting : Applies w Event.Raise → ⊥

abbrev pub NoDirectBelow : ℕ → PlainWorld → Type 0
NoDirectBelow n w = (i : ℕ) → i < n → Applies w (Event.Direct i) → ⊥

abbrev pub NoDirect : PlainWorld → Type 0
NoDirect w = NoDirectBelow (length w.queues) w

abbrev pub NoSeatBelow : ℕ → PlainWorld → Type 0
NoSeatBelow n w = (k : ℕ) → k < n → NoneApplies w (of_seat k)

abbrev pub NoSeat : PlainWorld → Type 0
NoSeat w = NoSeatBelow (length w.seats) w

abbrev pub NoEnterBelow : ℕ → PlainWorld → Type 0
NoEnterBelow n w = (i : ℕ) → i < n → Applies w (Event.Enter i) → ⊥

abbrev pub NoEnter : PlainWorld → Type 0
NoEnter w = NoEnterBelow (length w.queues) w

-- of the queues that are asked
abbrev pub NoFetchBelow : (ℕ → Bool) → ℕ → PlainWorld → Type 0
NoFetchBelow asked n w = (i : ℕ) → i < n → asked i ≡ true → Applies w (Event.Fetch i) → ⊥

abbrev pub NoFetch : (ℕ → Bool) → PlainWorld → Type 0
NoFetch asked w = NoFetchBelow asked (length w.queues) w

-- this queue alone is asked
pub record AsksOnly (asked : ℕ → Bool) (n : ℕ) : Type 0 where
  pub on : asked n ≡ true
  pub only : (q : ℕ) → asked q ≡ true → q ≡ n

-- no event before the point in the order applies
abbrev pub NoneBefore : Cursor → PlainWorld → Type 0
NoneBefore cursor.Start w = ⊤
NoneBefore (cursor.Direct n) w = NoStart w × NoDirectBelow n w
NoneBefore cursor.Seats w = NoStart w × NoDirect w
NoneBefore (cursor.Enter n) w = NoStart w × NoDirect w × NoSeat w × NoEnterBelow n w
NoneBefore (cursor.Fetch n) w = NoStart w × NoDirect w × NoSeat w × NoEnter w

-- the point is the first queue's next chain
abbrev pub IsFetchPlace : Cursor → Type 0
IsFetchPlace c = (n : ℕ) × (c ≡ cursor.Fetch n)

-- the first of so many queues whose answer may be ready, where none before the cursor applies; of so many seats, the
-- first that may have a step; and the first queue on which a request may have arrived
abbrev pub direct_from : Cursor → ℕ → ℕ
direct_from cursor.Start queues = 0
direct_from (cursor.Direct n) queues = n
direct_from cursor.Seats queues = queues
direct_from (cursor.Enter n) queues = queues
direct_from (cursor.Fetch n) queues = queues

abbrev pub seat_from : Cursor → ℕ → ℕ
seat_from cursor.Start seats = 0
seat_from (cursor.Direct n) seats = 0
seat_from cursor.Seats seats = 0
seat_from (cursor.Enter n) seats = seats
seat_from (cursor.Fetch n) seats = seats

abbrev pub enter_from : Cursor → ℕ → ℕ
enter_from cursor.Start queues = 0
enter_from (cursor.Direct n) queues = 0
enter_from cursor.Seats queues = 0
enter_from (cursor.Enter n) queues = n
enter_from (cursor.Fetch n) queues = queues

-- nor one before the first fetch
abbrev pub NoneBeforeFetch : PlainWorld → Type 0
NoneBeforeFetch w = NoStart w × NoDirect w × NoSeat w × NoEnter w

-- where to look once a seat took a step, a request came to its unit, a queue took a chain: at the beginning, unless
-- this can't have woken an event there
abbrev pub LeavesNext : PlainWorld → Cursor → Type 0
LeavesNext w c = (c ≡ cursor.Start) ⊎ ((c ≡ cursor.Seats) × (w.function ≡ None))

abbrev pub EntersNext : ℕ → PlainWorld → Cursor → Type 0
EntersNext n w c = (c ≡ cursor.Start) ⊎ ((c ≡ cursor.Seats) × SlotIs w n Slot.Empty)

abbrev pub FetchesNext : ℕ → PlainWorld → Cursor → Type 0
FetchesNext n w c =
    (c ≡ cursor.Start)
    ⊎ ((c ≡ cursor.Enter n) × (w.function ≡ None) × ((x : PlainJob) × SlotIs w n (Slot.Arrived x)))

-- what is first was done, by a transition of which this holds, and before a point none applies then
abbrev pub StepsNext : (ℕ → Bool) → (Transition → Type 0) → PlainWorld → Cursor → PlainWorld → Type 0
StepsNext asked Q w c w' =
    (d : Transition) × Happens d w × IsNextOf asked w (event_of d) × (w' ≡ after d w) × NoneBefore c w' × Q d

-- so many transitions were done, each of the first event that applied, and before a point none applies then
pub record ServesNext (asked : ℕ → Bool) (most : ℕ) (w : PlainWorld) (s : Progress) (w' : PlainWorld) : Type 0 where
  pub some : 1 ≤ s.steps
  pub few : s.steps ≤ most
  pub serves : ServesBy asked w s.steps w'
  pub before : NoneBefore s.next w'

-- at least one was done; or none applies at all; or memory was refused for what is first
abbrev pub TurnsNext : (ℕ → Bool) → ℕ → PlainWorld → Result (Option Progress) NoMemory → PlainWorld → Type 0
TurnsNext asked most w (Ok (Some s)) w' = ServesNext asked most w s w'
TurnsNext asked most w (Ok None) w' = (w' ≡ w) × IsQuietOf asked w
TurnsNext asked most w (Err x) w' = (w' ≡ w) × MayWantFirst w (order_for asked w)

-- a test of a fact is false where it holds
abbrev pub Denies : Type 0 → Bool → Type 0
Denies P true = P → ⊥
Denies P false = P

-- the first seat serves the requests of the queue, has nothing in hand and no job to hand off, and its list of the
-- hand-off is empty
pub record MayServe (i : ℕ) (w : PlainWorld) : Type 0 where
  pub request : 2 ≤ i
  pub there : i < length w.queues
  pub closed : w.function ≡ None
  pub own : owner w.workers i ≡ 0
  pub seat : SeatIs w 0 Hand.Empty []
  pub handed_off : OffIs w 0 []
  pub room : 0 < w.limit

-- what was done at once of a request of this queue, and where to look then: it only entered, or was served to its end
abbrev pub served_of : Brought → ℕ → ℕ → Progress
served_of brought.Waits jobs queue = record { next = cursor.Start; steps = 2 }
served_of (brought.Answered left) zero queue = record { next = cursor.Fetch queue; steps = 7 }
served_of (brought.Answered left) (suc jobs) queue = record { next = cursor.Seats; steps = 7 }

-- In a memory that others may write too

-- by this memory the notice of what it completed was decided; where it completed nothing, memory is seen as it was left; and
-- its writes were stored
pub record Sees (stored : List Write → Type 0) (left seen : List ℕ) (t : Transition) : Type 0 where
  pub sees : SeesBy (completion_of t) left seen
  pub stores : stored (action_of t).writes

-- nothing was stored
abbrev pub IsNone : List Write → Type 0
IsNone ws = ws ≡ []

-- what a turn of the device rests on: memory may be read, and is one of the lists of bytes that it may be; and whichever it
-- is, the device is whole
pub record IsReadyIn (may_read : Type 0) (shared : Bool) (may_be : List ℕ → Type 0) (size : ℕ) (d : PlainDevice) : Type 0 where
  pub reading : may_read
  pub some : (m : List ℕ) × may_be m
  pub whole : (m : List ℕ) → may_be m → IsWhole (standing shared m d)
  pub sound : IsSoundIn shared may_be d
  pub fits : FitsIn size d
  pub few : HasFew d

-- it holds of the device with each list of bytes that memory may be
abbrev pub AtEach : Bool → (List ℕ → Type 0) → (PlainWorld → Type 0) → PlainDevice → Type 0
AtEach shared may_be P d = (m : List ℕ) → may_be m → P (standing shared m d)

-- the same, and no other bytes may stand there than before
abbrev pub FindsIn : Bool → (List ℕ → Type 0) → (List ℕ → Type 0) → (PlainWorld → Type 0) → PlainDevice → Type 0
FindsIn shared before after P d = (m : List ℕ) → after m → before m × P (standing shared m d)

-- the first of these events that applies was done, and its writes were stored; or none of them applies, and nothing was
abbrev pub TurnsFirstIn : Bool → (List ℕ → Type 0) → (List ℕ → Type 0) → (List Write → Type 0) → List Event → PlainDevice → Bool
    → PlainDevice → Type 0
TurnsFirstIn shared before after stored xs d true d' =
    EachSeen shared before after
    (λ found left seen. TurnsFirst (Sees stored left seen) xs (standing shared found d) (standing shared left d'))
TurnsFirstIn shared before after stored xs d false d' =
    (d' ≡ d) × FindsIn shared before after (λ w. NoneApplies w xs) d × stored []

-- the same of events that need no memory, whatever stands there
abbrev pub TurnsFirstAlone : List Event → PlainDevice → Bool → PlainDevice → Type 0
TurnsFirstAlone xs d true d' =
    (shared : Bool) (m : List ℕ) → IsSound (standing shared m d)
    → TurnsFirst (Sees IsNone m m) xs (standing shared m d) (standing shared m d')
TurnsFirstAlone xs d false d' =
    (shared : Bool) (m : List ℕ) → IsSound (standing shared m d)
    → (standing shared m d' ≡ standing shared m d) × NoneApplies (standing shared m d) xs

-- so many events were done in one phase, each the first that applied, and before a point none applies then, whatever stands
-- in memory
pub record ServesNextIn {X : Type 0} (shared : Bool) (may_be : X → List ℕ → Type 0) (stored : X → X → List Write → Type 0)
    (asked : ℕ → Bool) (most : ℕ) (x : X) (d : PlainDevice) (s : Progress) (y : X) (d' : PlainDevice) : Type 0 where
  pub some : 1 ≤ s.steps
  pub few : s.steps ≤ most
  pub serves : ServesInPhase shared may_be stored asked x d s.steps y d'
  pub before : (m : List ℕ) → NoneBefore s.next (standing shared m d')

-- at least one was done; or none applies at all, or memory was refused for what is first, and nothing was stored
abbrev pub TurnsNextIn : {X : Type 0} → Bool → (X → List ℕ → Type 0) → (X → X → List Write → Type 0) → (ℕ → Bool) → ℕ → X → PlainDevice
    → Result (Option Progress) NoMemory → X → PlainDevice → Type 0
TurnsNextIn {X} shared may_be stored asked most x d (Ok (Some s)) y d' = ServesNextIn shared may_be stored asked most x d s y d'
TurnsNextIn {X} shared may_be stored asked most x d (Ok None) y d' =
    (d' ≡ d) × FindsIn shared (may_be x) (may_be y) (λ w. IsQuietOf asked w) d × stored x y []
TurnsNextIn {X} shared may_be stored asked most x d (Err fault) y d' =
    (d' ≡ d) × FindsIn shared (may_be x) (may_be y) (λ w. MayWantFirst w (order_for asked w)) d × stored x y []

-- the same of a queue's next chain, and what follows it; or there is none, or the queue isn't asked
abbrev pub FetchesOn : {X : Type 0} → Bool → (X → List ℕ → Type 0) → (X → X → List Write → Type 0) → (ℕ → Bool) → ℕ → ℕ → X → PlainDevice
    → Result (Option Progress) NoMemory → X → PlainDevice → Type 0
FetchesOn {X} shared may_be stored asked most i x d (Ok (Some s)) y d' = ServesNextIn shared may_be stored asked most x d s y d'
FetchesOn {X} shared may_be stored asked most i x d (Ok None) y d' =
    (d' ≡ d) × FindsIn shared (may_be x) (may_be y) (λ w. asked i ≡ true → Applies w (Event.Fetch i) → ⊥) d × stored x y []
FetchesOn {X} shared may_be stored asked most i x d (Err fault) y d' =
    (d' ≡ d) × FindsIn shared (may_be x) (may_be y) (λ w. (asked i ≡ true) × MayWant (Event.Fetch i) w) d × stored x y []
