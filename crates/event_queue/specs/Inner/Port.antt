-- Rests on `specs/Port.antt`; no promise rests on it.
use Rattle.std.specs.Prelude.{◌≤◌, ◌<◌}
use Rattle.std.specs.Option.{ForSome}
use Rattle.scsi_codec.specs.declared.event_queue.Event.{Event}
use Rattle.ring_core.specs.Parts.{writable_total}
use Rattle.ring_core.specs.State.{PlainChain}

-- the least room for an event
abbrev pub HoldsEvent : PlainChain → Type 0
HoldsEvent c = 16 ≤ writable_total c.parts

-- an event is about no unit, or about one of a LUN that can be written
abbrev pub HasAddress : Event → Type 0
HasAddress e = ForSome e.address (λ a. a.lun < 16384)
