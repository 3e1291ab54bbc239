-- What the calls of the device promise: behind every trace that led to where they begin, the promise is kept where they
-- end.
use Rattle.std.specs.Prelude.{ℕ, ◌≡◌, Bool, if◌then◌else◌, List, [], ◌∷◌, ◌++◌, map, take, Some, slice_get, Result, Ok, Err}
use Rattle.foundation.specs.declared.NoMemory.{NoMemory}
use Rattle.device_model.specs.World.{PlainWorld}
use Rattle.device_model.specs.Events.{Event, plain_event}
use Rattle.device_model.specs.declared.event.Event as declared
use Rattle.device_model.specs.Transitions.{event_of}
use Rattle.device_model.specs.Happens.{MayWant, Occurrence, Reached}
use Rattle.device_model.specs.Turns.{count_changes}
use Rattle.device_model.specs.Promise.{IsPromised}
use Rattle.device_steps.specs.Settling.{ServesBy, asks_all}
use Rattle.world.specs.Steps.{events_of}
use Rattle.world.specs.declared.served.Served.{Served}

-- a trace of these events goes on from the one world to the other, and so many of its actions changed something: behind
-- every trace that reached the one from an opening it reaches the other, and the promise is kept by both together (the
-- newest event first)
pub record GoesOn (w : PlainWorld) (events : List Event) (count : ℕ) (w' : PlainWorld) : Type 0 where
  pub more : List Occurrence
  pub told : map (λ (o : Occurrence). o.event) more ≡ events
  pub counted : count_changes more ≡ count
  pub reaches : (old : PlainWorld) (past : List Occurrence) → Reached old past w → Reached old (more ++ past) w'
  pub kept : (old : PlainWorld) (past : List Occurrence) (r : Reached old past w)
      → IsPromised old (more ++ past) w' (reaches old past r)

-- one event, or memory was refused for it and nothing changed
abbrev pub StepsAsPromised : PlainWorld → Event → Result Bool NoMemory → PlainWorld → Type 0
StepsAsPromised w e (Ok changed) w' = GoesOn w (e ∷ []) (if changed then 1 else 0) w'
StepsAsPromised w e (Err x) w' = MayWant e w × (w' ≡ w)

-- all events; or those before one that memory was refused for, which changed nothing
abbrev pub RunsAsPromised : PlainWorld → List declared.Event → Result ℕ NoMemory → PlainWorld → Type 0
RunsAsPromised w events (Ok count) w' = GoesOn w (events_of events) count w'
RunsAsPromised w events (Err x) w' =
    (k : ℕ) × (e : declared.Event) × (count : ℕ) × (slice_get events k ≡ Some e)
    × GoesOn w (events_of (take k events)) count w' × MayWant (plain_event e) w'

-- the trace is of these very events: so many, each the first that applied
pub record GoesOnInOrder (asked : ℕ → Bool) (w : PlainWorld) (count : ℕ) (w' : PlainWorld) : Type 0 where
  pub serves : ServesBy asked w count w'
  pub goes_on : GoesOn w (map event_of serves.transitions) count w'

-- as many as were counted; or some, until memory was refused
abbrev pub ServesAsPromised : (ℕ → Bool) → PlainWorld → Result Served NoMemory → PlainWorld → Type 0
ServesAsPromised asked w (Ok s) w' = GoesOnInOrder asked w s.steps w'
ServesAsPromised asked w (Err x) w' = (count : ℕ) × GoesOnInOrder asked w count w'

abbrev pub SettlesAsPromised : PlainWorld → Result ℕ NoMemory → PlainWorld → Type 0
SettlesAsPromised w (Ok count) w' = GoesOnInOrder asks_all w count w'
SettlesAsPromised w (Err x) w' = (count : ℕ) × GoesOnInOrder asks_all w count w'
