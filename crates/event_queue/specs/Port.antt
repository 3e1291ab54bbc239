-- The event port as a plain value, and what a call gives and leaves (VIRTIO 1.2, 5.6.6.3).
use Rattle.std.specs.Prelude.{ℕ, Bool, true, false, if◌then◌else◌, List, [], ◌∷◌, ◌++◌, Option, Some, None}
use Rattle.scsi_codec.specs.declared.event_queue.Event.{Event}
use Rattle.scsi_codec.specs.EventQueue.{event_bytes, missed_event}
use Rattle.ring_core.specs.State.{PlainChain}

-- the buffers that are held, oldest first, whether an event was missed since a buffer last came, and how many may be
-- held
pub record PlainPort : Type 0 where
  pub buffers : List PlainChain
  pub missed : Bool
  pub limit : ℕ

abbrev pub opening_port : ℕ → PlainPort
opening_port limit = record { buffers = []; missed = false; limit = limit }

-- what comes to the port: an event that is raised, or a buffer of the driver
pub data Happening : Type 0 where
  Raised : Event → Happening
  Came : PlainChain → Happening

-- a buffer, and the bytes that it gets
abbrev pub Gift : Type 0
Gift = PlainChain × List ℕ

-- the oldest of these buffers gets the event
abbrev pub gives_to : Event → List PlainChain → Option Gift
gives_to e [] = None
gives_to e (c ∷ later) = Some (c, event_bytes e)

-- or it is missed
abbrev pub raised_to : List PlainChain → PlainPort → PlainPort
raised_to [] p = record p { missed = true }
raised_to (c ∷ later) p = record p { buffers = later }

-- a buffer is held, or gets at once that events were missed
abbrev pub gives : Happening → PlainPort → Option Gift
gives (Happening.Raised e) p = gives_to e p.buffers
gives (Happening.Came c) p = if p.missed then Some (c, event_bytes missed_event) else None

abbrev pub after : Happening → PlainPort → PlainPort
after (Happening.Raised e) p = raised_to p.buffers p
after (Happening.Came c) p =
    if p.missed then record p { missed = false } else record p { buffers = p.buffers ++ c ∷ [] }
