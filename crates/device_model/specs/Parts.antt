-- What the parts of the device hold between two steps.
use Rattle.std.specs.Prelude.{ℕ, ◌≡◌, ◌++◌, nat_lt, Bool, true, false, List, length}
use Rattle.ring_core.specs.State.{RingState, PlainChain}
use Rattle.ring_core.specs.declared.log.Ticket.{Ticket}
use Rattle.ring_core.specs.Parts.{readable_total, writable_total}
use Rattle.ring_core.specs.Writes.{Write, all_written, scatter_writes}
use Rattle.ring_core.specs.Offer.{used_writes}
use Rattle.request_intake.specs.declared.answer.ChainLengths.{ChainLengths}
use Rattle.request_intake.specs.UnitRequest.{PlainRequest}
use Rattle.unit_model.specs.Tasks.{Entry}
use Rattle.unit_model.specs.Endings.{Ending, answer_of}
use Rattle.unit_model.specs.Jobs.{PlainJob}

-- a chain with the first of its readable bytes, read when it was fetched
pub record PlainFetch : Type 0 where
  pub chain : PlainChain
  pub bytes : List ℕ

abbrev pub ticket_of : PlainFetch → Ticket
ticket_of f = f.chain.ticket

abbrev pub lengths_of : PlainChain → ChainLengths
lengths_of c = record { readable = readable_total c.parts; writable = writable_total c.parts }

-- what was asked of the task of an entry
abbrev pub request_of : Entry → PlainRequest
request_of e = record { id = e.id; attribute = e.attribute; command = e.command; asks_medium = e.asks_medium; data_out = e.data_out }

-- what is told: bytes that were decided at the Fetch, or how the request ended at its unit
pub data Outcome : Type 0 where
  Decided : List ℕ → Outcome
  Ended : Ending → Outcome

abbrev pub bytes_of : ChainLengths → Outcome → List ℕ
bytes_of n (Outcome.Decided bytes) = bytes
bytes_of n (Outcome.Ended ending) = answer_of n ending

-- what answers a chain: the bytes over its writable parts, and then its used entry
abbrev pub answer_writes : RingState → PlainChain → List ℕ → List Write
answer_writes s c bytes = scatter_writes c.parts 0 bytes ++ used_writes s c.id (length bytes)

-- what the completion of a chain writes, and the memory behind these writes by which it is decided whether the driver
-- wants a notice
pub record Completion : Type 0 where
  pub writes : List Write
  pub seen : List ℕ

-- these writes, and memory seen as they left it
abbrev pub as_left : List ℕ → List Write → Completion
as_left m xs = record { writes = xs; seen = all_written m xs }

-- a memory of the device's own is seen as it was left; one that is shared with the guest has any bytes by then
abbrev pub IsSeen : Bool → List ℕ → List ℕ → Type 0
IsSeen false left seen = seen ≡ left
IsSeen true left seen = length seen ≡ length left

-- what a queue has between two steps: nothing, a request for a unit, or a chain that is to be answered
pub data Slot : Type 0 where
  Empty : Slot
  Arrived : PlainJob → Slot
  Direct : PlainChain → Outcome → Slot

-- what a seat has in hand between two steps: nothing, a job that is to be committed, one that is to be answered, or a
-- task of a unit that is to leave
pub data Hand : Type 0 where
  Empty : Hand
  Taken : PlainJob → Hand
  Done : PlainJob → Outcome → Hand
  Answered : ℕ → Ticket → Hand

-- the least room for an event (VIRTIO 1.2 §5.6.6.3)
abbrev pub is_short : PlainChain → Bool
is_short c = nat_lt (writable_total c.parts) 16
