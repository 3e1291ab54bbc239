-- The device on a memory that its guest writes at any time: what stood there at one event tells nothing of what stands
-- there at the next.
use Rattle.std.specs.Prelude.{ℕ, Bool, true, false, ◌≡◌, ◌+◌, ◌*◌, ◌≤◌, ◌⊎◌, List, [], ◌∷◌, length, map, Some, ⊤}
use Rattle.std.specs.List.{sum_by}
use Rattle.device_model.specs.Parts.{Completion}
use Rattle.device_model.specs.World.{PlainWorld}
use Rattle.device_model.specs.Events.{Event}
use Rattle.device_model.specs.Transitions.{Transition, event_of, completion_of}
use Rattle.device_model.specs.After.{after}
use Rattle.device_model.specs.Happens.{Occurrence, Happens, WorldStep, occurrence_of}
use Rattle.device_model.specs.Places.{accepted_count, used_count}
use Rattle.device_model.specs.Order.{IsNextOf, IsQuietOf}
use Rattle.device_model.specs.Measure.{price, visits, roused, answered_hand}
use Rattle.device_model.specs.Settling.{visited}

-- the same device with these bytes in memory
abbrev pub with_memory : List ℕ → PlainWorld → PlainWorld
with_memory m w = record w { memory = m }

-- the guest writes all of memory
abbrev pub refill : List ℕ → Transition
refill m = Transition.Poke (record { addr = 0; bytes = m })

-- the other trace is this one with a write of all of memory before its first event and one behind each; both newest first
abbrev pub IsRefilled : List Occurrence → List Occurrence → Type 0
IsRefilled [] full = (m : List ℕ) × (full ≡ occurrence_of (refill m) ∷ [])
IsRefilled (o ∷ past) full =
    (m : List ℕ) × (rest : List Occurrence) × (full ≡ occurrence_of (refill m) ∷ o ∷ rest) × IsRefilled past rest

-- the trace leads step by step from one world to another, where any bytes may come to stand in memory before its first
-- event and behind each
abbrev pub LiveRuns : PlainWorld → List Occurrence → PlainWorld → Type 0
LiveRuns old [] w = (m : List ℕ) × (length m ≡ length old.memory) × (w ≡ with_memory m old)
LiveRuns old (o ∷ past) w =
    (v : PlainWorld) × (u : PlainWorld) × (m : List ℕ) × LiveRuns old past v × WorldStep v o.event o.action u
    × (length m ≡ length u.memory) × (w ≡ with_memory m u)

-- a transition, and what stood in memory as it was done
pub record Turn : Type 0 where
  pub found : List ℕ
  pub transition : Transition

-- the world once these were done, the newest first
abbrev pub live_world : PlainWorld → List Turn → PlainWorld
live_world w [] = w
live_world w (t ∷ past) = after t.transition (with_memory t.found (live_world w past))

abbrev pub occurrence_at : Turn → Occurrence
occurrence_at t = occurrence_of t.transition

abbrev pub transition_at : Turn → Transition
transition_at t = t.transition

-- the event is the first of the order that applies; but of new chains of several queues, which may come at any time, any
-- is first
abbrev pub IsNextLive : (ℕ → Bool) → PlainWorld → Event → Type 0
IsNextLive asked w e =
    IsNextOf (λ q. false) w e ⊎ (IsQuietOf (λ q. false) w × ((q : ℕ) × (asked q ≡ true) × (e ≡ Event.Fetch q)))

-- each transition happens with what stood in memory then, and is of an event that was next
abbrev pub LiveSettlesOf : (ℕ → Bool) → PlainWorld → List Turn → Type 0
LiveSettlesOf asked w [] = ⊤
LiveSettlesOf asked w (t ∷ past) =
    LiveSettlesOf asked w past × (length t.found ≡ length (live_world w past).memory)
    × Happens t.transition (with_memory t.found (live_world w past))
    × IsNextLive asked (live_world w past) (event_of t.transition)

-- how many jobs these have tried again
abbrev pub live_roused : PlainWorld → List Turn → ℕ
live_roused w [] = 0
live_roused w (t ∷ past) = live_roused w past + roused (with_memory t.found (live_world w past)) t.transition

-- the bound of a settling: what the guest wrote is no step
abbrev pub IsShortLive : PlainWorld → List Turn → Type 0
IsShortLive w more =
    length more + used_count price w
    ≤ accepted_count price (live_world w more) + sum_by answered_hand w.seats + visits w.function
    + 2 * sum_by visited (map transition_at more) + length w.waiting + length w.queues
    + 2 * length w.woken + 2 * live_roused w more

-- One event, with these bytes in memory as it began; these are what its writes left there; and a notice was decided by
-- these
pub record TurnsAt (found left seen : List ℕ) (w : PlainWorld) (e : Event) (w' : PlainWorld) : Type 0 where
  pub transition : Transition
  pub event : event_of transition ≡ e
  pub happens : Happens transition (with_memory found w)
  pub is : with_memory left w' ≡ after transition (with_memory found w)
  pub notice : (xs : Completion) → completion_of transition ≡ Some xs → xs.seen ≡ seen
