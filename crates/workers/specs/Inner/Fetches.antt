-- Rests on `specs/Fetches.antt`; no promise rests on it.
use Rattle.std.specs.Prelude.{ℕ, ◌≡◌, ◌≤◌, List, map, length, Some, slice_get}
use Rattle.foundation.specs.declared.record.Record.{Record}
use Rattle.virtqueue.specs.Queue.{BareQueue}
use Rattle.phases.specs.declared.slot.Slot.{Slot}
use Rattle.phases.specs.Slots.{slot_of}
use Rattle.phases.specs.Notes.{PlainNote}
use Rattle.phases.specs.DirectChain.{note_in}
use Rattle.lock_scopes.specs.Fetches.{ticket_left, ticket_of, IsDecided}

-- own: a note is of one of these queues, and decided by a fetch of it
pub record IsOfOne (queues : List BareQueue) (fetched : List (Record Slot)) (n : PlainNote) : Type 0 where
  pub queue_index : ℕ
  pub queue : BareQueue
  pub fetches : Record Slot
  pub there : slice_get queues queue_index ≡ Some queue
  pub left : slice_get fetched queue_index ≡ Some fetches
  pub of_queue : n.ticket.queue ≡ queue.ring.queue
  pub decided : IsDecided fetches.items n

-- own: what was gathered of queues: the notes Direct of each, and what its fetches left
pub record AreGathered (queues : List BareQueue) (fetched : List (Record Slot)) (notes : List PlainNote) : Type 0 where
  pub count : length fetched ≡ length queues
  pub each : (k : ℕ) (q : BareQueue) (f : Record Slot) → slice_get queues k ≡ Some q → slice_get fetched k ≡ Some f
      → 2 ≤ q.ring.queue → map ticket_left f.items ≡ map ticket_of q.ring.log.accepted
  pub decided : (j : ℕ) (n : PlainNote) → slice_get notes j ≡ Some n → IsOfOne queues fetched n
  pub noted : (k i : ℕ) (f : Record Slot) (s : Slot) (n : PlainNote) → slice_get fetched k ≡ Some f
      → slice_get f.items i ≡ Some s → note_in (slot_of s) ≡ Some n → (j : ℕ) × (slice_get notes j ≡ Some n)
