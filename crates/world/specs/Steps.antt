-- What the device's calls do: one event, and a list of them.
use Rattle.std.specs.Prelude.{ℕ, ◌≡◌, Bool, List, map, reverse, take, Some, slice_get, Result, Ok, Err}
use Rattle.foundation.specs.declared.NoMemory.{NoMemory}
use Rattle.device_model.specs.World.{PlainWorld}
use Rattle.device_model.specs.Events.{Event, plain_event}
use Rattle.device_model.specs.declared.event.Event as declared
use Rattle.device_model.specs.Happens.{MayWant, Occurrence, Runs}
use Rattle.device_model.specs.Turns.{IsStep, count_changes}

-- a step, or memory was refused and nothing changed
abbrev pub Steps : PlainWorld → Event → Result Bool NoMemory → PlainWorld → Type 0
Steps w e (Ok changed) w' = IsStep w e changed w'
Steps w e (Err x) w' = MayWant e w × (w' ≡ w)

-- these events, the newest first
abbrev pub events_of : List declared.Event → List Event
events_of events = reverse (map plain_event events)

-- the trace leads from one world to the other by these events, and so many of its actions changed something
pub record IsRun (w : PlainWorld) (events : List declared.Event) (count : ℕ) (w' : PlainWorld) : Type 0 where
  pub trace : List Occurrence
  pub runs : Runs w trace w'
  pub told : map (λ (o : Occurrence). o.event) trace ≡ events_of events
  pub counted : count_changes trace ≡ count

-- all events ran; or those before one that memory was refused for
abbrev pub RunsAll : PlainWorld → List declared.Event → Result ℕ NoMemory → PlainWorld → Type 0
RunsAll w events (Ok count) w' = IsRun w events count w'
RunsAll w events (Err x) w' =
    (k : ℕ) × (e : declared.Event) × (count : ℕ) × (slice_get events k ≡ Some e)
    × IsRun w (take k events) count w' × MayWant (plain_event e) w'
