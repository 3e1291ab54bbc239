-- What the fetches of a queue left in its slot, and the notes Direct of its requests.
use Rattle.std.specs.Prelude.{ℕ, ◌≡◌, ◌≤◌, List, map, Option, Some, None, slice_get}
use Rattle.std.specs.List.{filter_map}
use Rattle.ring_core.specs.declared.log.Ticket.{Ticket}
use Rattle.virtqueue.specs.Queue.{BareQueue}
use Rattle.device_model.specs.Parts.{Slot}
use Rattle.phases.specs.declared.slot.Slot as declared_slot
use Rattle.phases.specs.Slots.{slot_of}
use Rattle.phases.specs.Notes.{PlainNote}
use Rattle.phases.specs.DirectChain.{note_in}
use Rattle.phases.specs.declared.note.Cause.TheVariants as cause

-- own: the ticket of the chain that stands in a slot, if one does
abbrev pub ticket_in : Slot → Option Ticket
ticket_in Slot.Empty = None
ticket_in (Slot.Arrived x) = Some x.chain.ticket
ticket_in (Slot.Direct c o) = Some c.ticket

abbrev pub ticket_left : declared_slot.Slot → Option Ticket
ticket_left s = ticket_in (slot_of s)

abbrev pub ticket_of : Ticket → Option Ticket
ticket_of t = Some t

-- own: the note of the chain that a fetch left with its answer, if there is one
abbrev pub note_left : Option declared_slot.Slot → Option PlainNote
note_left None = None
note_left (Some s) = note_in (slot_of s)

-- own: a note is Direct, and of the chain of its number: the fetch of that left it with its answer decided
pub record IsDecided (fetched : List declared_slot.Slot) (n : PlainNote) : Type 0 where
  pub direct : n.cause ≡ cause.Direct
  pub decided : note_left (slice_get fetched n.ticket.number) ≡ Some n

-- own: each accepted chain of a request queue (queues 2 and up, VIRTIO 1.2, 5.6.2) is fetched once, and in order; each
-- note Direct is of a chain of this queue, for which the fetch of that chain decided the answer
pub record KeepsFetches (q : BareQueue) (fetched : List declared_slot.Slot) (notes : List PlainNote) : Type 0 where
  pub each : 2 ≤ q.ring.queue → map ticket_left fetched ≡ map ticket_of q.ring.log.accepted
  pub decided : (k : ℕ) (n : PlainNote) → slice_get notes k ≡ Some n → IsDecided fetched n
  pub of_queue : (k : ℕ) (n : PlainNote) → slice_get notes k ≡ Some n → n.ticket.queue ≡ q.ring.queue

-- own: the notes of what fetches left with its answer, in order
abbrev pub notes_left : List declared_slot.Slot → List PlainNote
notes_left fetched = filter_map (λ (s : declared_slot.Slot). note_in (slot_of s)) fetched

-- own: unless a ticket is lost, each chain for which its fetch decided the answer has its note, and there is no other
abbrev pub AreNoted : Option Ticket → List declared_slot.Slot → List PlainNote → Type 0
AreNoted lost fetched notes = lost ≡ None → notes ≡ notes_left fetched
