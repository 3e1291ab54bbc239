-- What holds of transitions and of what they lead to.
use Rattle.std.specs.Prelude.{ℕ, ◌≡◌, ◌+◌, List, [], ◌∷◌, ◌++◌, Option, Some, slice_get}
use Rattle.std.specs.List.{sum_by}
use Rattle.ring_core.specs.Writes.{all_written}
use Rattle.ring_core.specs.Offer.{wants_notice}
use Rattle.ring_core.specs.declared.fault.RingFault.{RingFault}
use Rattle.ring_core.specs.declared.log.Ticket.{Ticket}
use Rattle.unit_model.specs.Jobs.{PlainJob}
use Rattle.device_model.specs.Parts.{Hand}
use Rattle.device_model.specs.World.{PlainQueue, Seat, PlainWorld, all_off}
use Rattle.device_model.specs.Transitions.{Transition}
use Rattle.device_model.specs.Changing.{bit}
use Rattle.device_model.specs.After.{after}
use Rattle.device_model.specs.Happens.{Occurrence}
use Rattle.device_model.specs.Phases.{queue_of}

-- memory is the opening memory with the writes of the trace in order
abbrev pub memory_after : List ℕ → List Occurrence → List ℕ
memory_after m [] = m
memory_after m (e ∷ past) = all_written (memory_after m past) e.action.writes

-- the queue whose log or slot a transition changes
abbrev pub touches : Transition → Option ℕ
touches (Transition.Run x) = Some x.chain.ticket.queue
touches (Transition.Park x) = Some x.chain.ticket.queue
touches (Transition.EnterFull x) = Some x.chain.ticket.queue
touches (Transition.EnterBusy x) = Some x.chain.ticket.queue
touches (Transition.EnterStale x) = Some x.chain.ticket.queue
touches d = queue_of d

-- a broken queue stays broken, and a transition changes no other queue than that which it touches
pub record AreApart (d : Transition) (w : PlainWorld) : Type 0 where
  pub broken : (i : ℕ) (n : RingFault) (q : PlainQueue) → slice_get w.queues i ≡ Some q → q.ring.broken ≡ Some n
      → (r : PlainQueue) × (slice_get (after d w).queues i ≡ Some r) × (r.ring.broken ≡ Some n)
  pub others : (i : ℕ) → (touches d ≡ Some i → ⊥) → slice_get (after d w).queues i ≡ slice_get w.queues i

-- the chain of the ticket is the next that its queue has used
abbrev pub IsUsedBy : Ticket → PlainWorld → PlainWorld → Type 0
IsUsedBy t old new =
    (q r : PlainQueue) × (slice_get old.queues t.queue ≡ Some q) × (slice_get new.queues t.queue ≡ Some r)
    × (r.ring.log.used ≡ q.ring.log.used ++ t ∷ [])

-- each queue has used what it had
abbrev pub NoneIsUsed : PlainWorld → PlainWorld → Type 0
NoneIsUsed old new =
    (i : ℕ) (q : PlainQueue) → slice_get old.queues i ≡ Some q
    → (r : PlainQueue) × (slice_get new.queues i ≡ Some r) × (r.ring.log.used ≡ q.ring.log.used)

-- the queue of the ticket, whose chain was used last, counts one notice more where its driver wants one by what was seen
abbrev pub IsCountedBy : Ticket → List ℕ → PlainWorld → PlainWorld → Type 0
IsCountedBy t seen old new =
    (q r : PlainQueue) × (slice_get old.queues t.queue ≡ Some q) × (slice_get new.queues t.queue ≡ Some r)
    × (r.notices ≡ q.notices + bit (wants_notice r.ring seen))

-- each queue counts the notices that it did
abbrev pub NoneIsCounted : PlainWorld → PlainWorld → Type 0
NoneIsCounted old new =
    (i : ℕ) (q : PlainQueue) → slice_get old.queues i ≡ Some q
    → (r : PlainQueue) × (slice_get new.queues i ≡ Some r) × (r.notices ≡ q.notices)

-- What the jobs of the seats, of the hand-off and of those that wait count, each by what p says of it

abbrev pub in_hand : (PlainJob → ℕ) → Hand → ℕ
in_hand p Hand.Empty = 0
in_hand p (Hand.Taken x) = p x
in_hand p (Hand.Done x o) = p x
in_hand p (Hand.Answered unit_index t) = 0

abbrev pub at_seat : (PlainJob → ℕ) → Seat → ℕ
at_seat p s = in_hand p s.hand + sum_by p s.out

abbrev pub jobs_out : (PlainJob → ℕ) → PlainWorld → ℕ
jobs_out p w = sum_by (at_seat p) w.seats + sum_by p (all_off w) + sum_by p w.aside + sum_by p w.woken

-- the jobs that a transition brings from a unit, or ends
abbrev pub brings : Transition → List PlainJob
brings (Transition.Run x) = x ∷ []
brings (Transition.Leave k unit_index t jobs) = jobs
brings (Transition.Mark t p m jobs) = jobs
brings (Transition.Hard p jobs) = jobs
brings d = []

abbrev pub ends : Transition → List PlainJob
ends (Transition.Answer k x o xs) = x ∷ []
ends d = []
