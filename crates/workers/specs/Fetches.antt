-- What the fetches of a host's request queues left, and what its report has of that.
use Rattle.std.specs.Prelude.{ℕ, ◌≡◌, ◌≤◌, List, map, Option, Some, None, slice_get}
use Rattle.foundation.specs.declared.record.Record.{Record}
use Rattle.ring_core.specs.declared.log.Ticket.{Ticket}
use Rattle.unit_model.specs.Jobs.{PlainJob}
use Rattle.virtqueue.specs.Queue.{BareQueue}
use Rattle.phases.specs.declared.slot.Slot.{Slot}
use Rattle.phases.specs.declared.slot.Slot.TheVariants as slot
use Rattle.phases.specs.Slots.{slot_of}
use Rattle.phases.specs.Notes.{PlainNote}
use Rattle.phases.specs.DirectChain.{note_in}
use Rattle.phases.specs.declared.note.Cause.TheVariants as cause
use Rattle.lock_scopes.specs.Fetches.{ticket_left, ticket_of}

-- own: what the fetch of a number left, of those of a queue, if there is one
abbrev pub left_in : Option (Record Slot) → ℕ → Option Slot
left_in None number = None
left_in (Some fetched) number = slice_get fetched.items number

-- own: what the fetch of a ticket left in the slot of its queue
abbrev pub left_at : List (Record Slot) → Ticket → Option Slot
left_at fetched t = left_in (slice_get fetched t.queue) t.number

-- own: the notes Direct are exactly those of the requests for which their own fetch decided the answer
pub record AreDecided (queues : List BareQueue) (fetched : List (Record Slot)) (notes : List PlainNote) : Type 0 where
  -- each chain that a request queue accepted has one fetch, in order (queues 2 and up, VIRTIO 1.2, 5.6.2)
  pub each : (k : ℕ) (q : BareQueue) → slice_get queues k ≡ Some q → 2 ≤ k
      → (f : Record Slot) × (slice_get fetched k ≡ Some f) × (map ticket_left f.items ≡ map ticket_of q.ring.log.accepted)
  -- a note Direct is of what its fetch decided
  pub decided : (j : ℕ) (n : PlainNote) → slice_get notes j ≡ Some n → n.cause ≡ cause.Direct
      → (s : Slot) × (left_at fetched n.ticket ≡ Some s) × (note_in (slot_of s) ≡ Some n)
  -- what a fetch decided has its note
  pub noted : (t : Ticket) (s : Slot) (n : PlainNote) → left_at fetched t ≡ Some s → note_in (slot_of s) ≡ Some n
      → (j : ℕ) × (slice_get notes j ≡ Some n)
  -- so a request that was to enter its unit has no note Direct
  pub arrived : (j : ℕ) (n : PlainNote) (x : PlainJob) → slice_get notes j ≡ Some n
      → left_at fetched n.ticket ≡ Some (slot.Arrived x) → n.cause ≡ cause.Direct → ⊥
