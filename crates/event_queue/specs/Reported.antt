-- What each buffer gets, by what came to the port, newest first: the buffers are used in the order in which they came.
use Rattle.std.specs.Prelude.{ℕ, Bool, true, false, nat_lt, List, [], ◌∷◌, ◌++◌, length, map, drop, Option, Some, None}
use Rattle.std.specs.List.{zip}
use Rattle.scsi_codec.specs.declared.event_queue.Event.{Event}
use Rattle.ring_core.specs.State.{PlainChain}
use Rattle.scsi_codec.specs.EventQueue.{event_bytes, missed_event}
use Rattle.event_queue.specs.Port.{PlainPort, Happening, Gift, opening_port, gives, after}

-- the buffers that came, oldest first
abbrev pub came : List Happening → List PlainChain
came [] = []
came (Happening.Raised e ∷ past) = came past
came (Happening.Came c ∷ past) = came past ++ c ∷ []

-- the events that the driver was told, oldest first, and whether it is to be told that one was missed
pub record Reported : Type 0 where
  pub events : List Event
  pub missed : Bool

-- an event is told where a buffer is left for it, and else missed
abbrev pub raising : Bool → Event → List Event → Bool → Reported
raising true e events missed = record { events = events ++ e ∷ []; missed = missed }
raising false e events missed = record { events = events; missed = true }

-- the first buffer behind a miss tells it
abbrev pub coming : Bool → List Event → Reported
coming true events = record { events = events ++ missed_event ∷ []; missed = false }
coming false events = record { events = events; missed = false }

abbrev pub reported : List Happening → Reported
reported [] = record { events = []; missed = false }
reported (Happening.Raised e ∷ past) =
    raising (nat_lt (length (reported past).events) (length (came past))) e (reported past).events (reported past).missed
reported (Happening.Came c ∷ past) = coming (reported past).missed (reported past).events

-- the first buffers have got the events that were told, and the others are held
abbrev pub given_of : List Happening → List Gift
given_of past = zip (came past) (map (λ (e : Event). event_bytes e) (reported past).events)

abbrev pub held_of : List Happening → List PlainChain
held_of past = drop (length (reported past).events) (came past)

abbrev pub missed_of : List Happening → Bool
missed_of past = (reported past).missed

-- The port, call by call

-- the port behind these calls, and what they gave, oldest first
abbrev pub port_since : ℕ → List Happening → PlainPort
port_since limit [] = opening_port limit
port_since limit (h ∷ past) = after h (port_since limit past)

abbrev pub gifts_with : List Gift → Option Gift → List Gift
gifts_with gifts None = gifts
gifts_with gifts (Some g) = gifts ++ g ∷ []

abbrev pub gifts_since : ℕ → List Happening → List Gift
gifts_since limit [] = []
gifts_since limit (h ∷ past) = gifts_with (gifts_since limit past) (gives h (port_since limit past))
