-- A queue takes its next chain: a request arrives, an answer is decided directly, a function opens, an event buffer is held or
-- used at once, or a fault breaks the queue.
use Rattle.std.specs.Prelude.{ℕ, zero, suc, ◌≡◌, ◌≤◌, ◌⊎◌, ◌||◌, true, false, if◌then◌else◌, List, [], ◌∷◌, Some, None, slice_get, ⊤, ◌&&◌, ◌++◌}
use Rattle.scsi_codec.specs.EventQueue.{event_bytes, missed_event}
use Rattle.scsi_codec.specs.ControlQueue.{IsControl}
use Rattle.scsi_codec.specs.declared.control_queue.Control.{Control}
use Rattle.ring_core.specs.State.{PlainChain}
use Rattle.ring_core.specs.Writes.{all_written}
use Rattle.ring_core.specs.Offer.{Offers, Refused, MayLackMemory, Nothing}
use Rattle.ring_core.specs.Fetch.{Takes}
use Rattle.ring_core.specs.declared.fault.RingFault.{RingFault}
use Rattle.request_intake.specs.Inventory.{PlainInventory}
use Rattle.request_intake.specs.Decision.{decided}
use Rattle.request_intake.specs.declared.decision.Decision.{Decision}
use Rattle.request_intake.specs.declared.decision.Decision.TheVariants as decision
use Rattle.unit_model.specs.Jobs.{PlainJob}
use Rattle.task_mgmt.specs.Functions.{PlainFunction}
use Rattle.task_mgmt.specs.Control.{decided_of}
use Rattle.task_mgmt.specs.declared.control.ControlDecision.{ControlDecision}
use Rattle.task_mgmt.specs.declared.control.ControlDecision.TheVariants as managed
use Rattle.device_model.specs.Parts.{PlainFetch, Outcome, Completion, IsSeen, Slot, lengths_of, request_of, answer_writes, is_short}
use Rattle.device_model.specs.World.{PlainQueue, PlainWorld, change}
use Rattle.device_model.specs.Found.{QueueIs}
use Rattle.device_model.specs.Changing.{with_chain, arriving, taking, broken_by, spending}

-- a chain is taken on an idle queue, with its bytes
pub record Finds (w : PlainWorld) (f : PlainFetch) : Type 0 where
  pub queue : PlainQueue
  pub there : QueueIs w f.chain.ticket.queue queue
  pub empty : queue.slot ≡ Slot.Empty
  pub taken : Takes queue.ring w.memory f.chain f.bytes (with_chain f.chain queue.ring)

-- queue 0 is not fetched from while a function is open
abbrev pub IsOpenTo : PlainWorld → ℕ → Type 0
IsOpenTo w zero = w.function ≡ None
IsOpenTo w (suc q) = ⊤

-- what is decided of a chain of a request queue, of the control queue
abbrev pub DecidesRequest : PlainInventory → PlainFetch → Decision → Type 0
DecidesRequest inventory f d = decided inventory f.bytes (lengths_of f.chain) ≡ d

abbrev pub DecidesControl : PlainInventory → PlainFetch → ControlDecision → Type 0
DecidesControl inventory f d =
    (c : Control) × IsControl f.bytes c × (decided_of inventory.addresses c (lengths_of f.chain).writable ≡ d)

-- the direct answer of a chain of a queue
abbrev pub IsDirect : PlainInventory → ℕ → PlainFetch → List ℕ → Type 0
IsDirect inventory zero f a = DecidesControl inventory f (managed.Direct a)
IsDirect inventory (suc q) f a = DecidesRequest inventory f (decision.Direct a)

pub record Arrives (w : PlainWorld) (f : PlainFetch) (x : PlainJob) : Type 0 where
  pub finds : Finds w f
  pub request : 2 ≤ f.chain.ticket.queue
  pub chain : x.chain ≡ f.chain
  pub ticket : x.entry.ticket ≡ f.chain.ticket
  pub decided : DecidesRequest w.inventory f (decision.Enter x.unit (request_of x.entry))
  pub addressed : slice_get w.inventory.addresses x.unit ≡ Some x.address

-- the request stands in its queue's slot
abbrev pub after_arrive : PlainFetch → PlainJob → PlainWorld → PlainWorld
after_arrive f x w =
    record w { queues = change (arriving f.chain (Slot.Arrived x)) f.chain.ticket.queue w.queues }

pub record Refuses (w : PlainWorld) (f : PlainFetch) (a : List ℕ) : Type 0 where
  pub finds : Finds w f
  pub opened : IsOpenTo w f.chain.ticket.queue
  pub kind : (f.chain.ticket.queue ≡ 0) ⊎ (2 ≤ f.chain.ticket.queue)
  pub decided : IsDirect w.inventory f.chain.ticket.queue f a

-- the answer stands there
abbrev pub after_refuse : PlainFetch → List ℕ → PlainWorld → PlainWorld
after_refuse f a w =
    record w { queues = change (arriving f.chain (Slot.Direct f.chain (Outcome.Decided a))) f.chain.ticket.queue w.queues }

pub record OpensFunction (w : PlainWorld) (f : PlainFetch) (g : PlainFunction) : Type 0 where
  pub finds : Finds w f
  pub closed : w.function ≡ None
  pub control : f.chain.ticket.queue ≡ 0
  pub decided : DecidesControl w.inventory f (managed.Opens g)

-- the function is open
abbrev pub after_open : PlainFetch → PlainFunction → PlainWorld → PlainWorld
after_open f g w =
    record w {
      queues = change (taking f.chain) f.chain.ticket.queue w.queues;
      function = Some (record { chain = f.chain; function = g });
    }

-- the port gets the buffer, since it is long enough and no event was missed
pub record HoldsBuffer (w : PlainWorld) (f : PlainFetch) : Type 0 where
  pub finds : Finds w f
  pub event : f.chain.ticket.queue ≡ 1
  pub decided : (is_short f.chain || w.missed) ≡ false

-- the device holds the buffer
abbrev pub after_hold : PlainFetch → PlainWorld → PlainWorld
after_hold f w =
    record w { queues = change (taking f.chain) f.chain.ticket.queue w.queues; buffers = w.buffers ++ f.chain ∷ [] }

-- own: a short buffer is used with no byte, another with what was missed
abbrev pub spent_bytes : PlainChain → List ℕ
spent_bytes c = if is_short c then [] else event_bytes missed_event

-- the buffer is used at once
pub record UsesBuffer (w : PlainWorld) (f : PlainFetch) (xs : Completion) : Type 0 where
  pub finds : Finds w f
  pub event : f.chain.ticket.queue ≡ 1
  pub decided : (is_short f.chain || w.missed) ≡ true
  pub writes : xs.writes ≡ answer_writes (with_chain f.chain finds.queue.ring) f.chain (spent_bytes f.chain)
  pub seen : IsSeen w.shared (all_written w.memory xs.writes) xs.seen

-- the buffer was used
abbrev pub after_use_buffer : PlainFetch → Completion → PlainWorld → PlainWorld
after_use_buffer f xs w =
    record w {
      queues = change (spending xs.seen f.chain) f.chain.ticket.queue w.queues;
      memory = all_written w.memory xs.writes;
      missed = w.missed && is_short f.chain;
    }

pub record Breaks (w : PlainWorld) (q : ℕ) (n : RingFault) : Type 0 where
  pub queue : PlainQueue
  pub there : QueueIs w q queue
  pub empty : queue.slot ≡ Slot.Empty
  pub whole : queue.ring.broken ≡ None
  pub opened : IsOpenTo w q
  pub offered : Offers queue.ring w.memory (Refused n)

-- the queue takes nothing more
abbrev pub after_break : ℕ → RingFault → PlainWorld → PlainWorld
after_break q n w = record w { queues = change (broken_by n) q w.queues }

-- a queue whose slot is empty and that no fault broke has something for the device
pub record MayFetch (w : PlainWorld) (i : ℕ) : Type 0 where
  pub queue : PlainQueue
  pub there : QueueIs w i queue
  pub empty : queue.slot ≡ Slot.Empty
  pub opened : IsOpenTo w i
  pub whole : queue.ring.broken ≡ None
  pub has_some : Offers queue.ring w.memory Nothing → ⊥

-- what a fetch may be refused memory for
pub record WantsFetch (w : PlainWorld) (i : ℕ) : Type 0 where
  pub queue : PlainQueue
  pub there : QueueIs w i queue
  pub empty : queue.slot ≡ Slot.Empty
  pub opened : IsOpenTo w i
  pub wants : MayLackMemory queue.ring w.memory
