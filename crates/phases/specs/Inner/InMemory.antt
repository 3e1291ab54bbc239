-- What the phases do that complete a chain in a memory that others may write too. Three lists of bytes stand for that memory:
-- found by the phase, left by its writes, and seen behind them, by which the notice is decided.
use Rattle.std.specs.Prelude.{ℕ, ◌≡◌, Bool, true, false, List, Option, Some, None}
use Rattle.scsi_codec.specs.ControlQueue.{function_bytes}
use Rattle.ring_core.specs.State.{PlainChain}
use Rattle.ring_core.specs.Writes.{Write}
use Rattle.request_intake.specs.Inventory.{PlainInventory}
use Rattle.task_mgmt.specs.Functions.{is_over, response_of}
use Rattle.device_model.specs.Parts.{Completion, Slot, Hand, answer_writes}
use Rattle.device_model.specs.World.{PlainQueue, Opened}
use Rattle.device_model.specs.Transitions.{Transition}
use Rattle.device_model.specs.Phases.{AsksQueue, queue_after, bytes_after}
use Rattle.virtqueue.specs.Queue.{BareQueue, MayComplete}
use Rattle.phases.specs.Queue.{with_slot}
use Rattle.phases.specs.Direct.{decided_writes}

-- these writes, and this memory seen behind them
abbrev pub as_seen : List ℕ → List Write → Completion
as_seen n xs = record { writes = xs; seen = n }

-- a transition on a queue with memory, where these units are
pub record DoesQueueIn (shared : Bool) (inventory : PlainInventory) (d : Transition) (q : PlainQueue) (found : List ℕ)
    (q' : PlainQueue) (left : List ℕ) : Type 0 where
  pub asks : (missed : Bool) → AsksQueue shared inventory missed d q found
  pub queue : q' ≡ queue_after d found q
  pub memory : left ≡ bytes_after d found

-- a transition on a queue with memory, whatever units there are and whatever stands in the queue's slot
abbrev pub AtQueueIn : Bool → Transition → BareQueue → List ℕ → BareQueue → List ℕ → Type 0
AtQueueIn shared d q found q' left =
    (inventory : PlainInventory) (s : Slot) → DoesQueueIn shared inventory d (with_slot s q) found (with_slot s q') left

-- nothing changed, and memory is seen as it was found
pub record StaysQueueIn (q q' : BareQueue) (found left n : List ℕ) : Type 0 where
  pub queue : q' ≡ q
  pub memory : left ≡ found
  pub seen : n ≡ found

-- the memory isn't the queue's, or the queue doesn't own the chain: nothing is changed, and the chain is let go
pub record LetsGoIn (q : BareQueue) (found : List ℕ) (c : PlainChain) (q' : BareQueue) (left n : List ℕ) : Type 0 where
  pub why : MayComplete q found c → ⊥
  pub stays : StaysQueueIn q q' found left n

-- `Directs` in such a memory
abbrev pub DirectsIn : Bool → Slot → BareQueue → List ℕ → Bool → BareQueue → List ℕ → List ℕ → Slot → Type 0
DirectsIn shared (Slot.Direct c o) q found true q' left seen s' =
    ((inventory : PlainInventory) → DoesQueueIn shared inventory (Transition.Direct c o (as_seen seen (decided_writes q.ring c o)))
    (with_slot (Slot.Direct c o) q) found (with_slot s' q') left) × (s' ≡ Slot.Empty)
DirectsIn shared (Slot.Direct c o) q found false q' left seen s' = LetsGoIn q found c q' left seen × (s' ≡ Slot.Empty)
DirectsIn shared s q found true q' left seen s' = ⊥
DirectsIn shared s q found false q' left seen s' = StaysQueueIn q q' found left seen × (s' ≡ s)

abbrev pub RespondsWhereIn : Bool → Bool → Opened → BareQueue → List ℕ → Bool → BareQueue → List ℕ → List ℕ → Option Opened
    → Type 0
RespondsWhereIn shared true f q found true q' left seen f' =
    AtQueueIn shared (Transition.Respond f.chain (response_of f.function)
    (as_seen seen (answer_writes q.ring f.chain (function_bytes (response_of f.function))))) q found q' left × (f' ≡ None)
RespondsWhereIn shared true f q found false q' left seen f' = LetsGoIn q found f.chain q' left seen × (f' ≡ None)
RespondsWhereIn shared false f q found true q' left seen f' = ⊥
RespondsWhereIn shared false f q found false q' left seen f' = StaysQueueIn q q' found left seen × (f' ≡ Some f)

-- `Responds` in such a memory
abbrev pub RespondsIn : Bool → Option Opened → BareQueue → List ℕ → Bool → BareQueue → List ℕ → List ℕ → Option Opened → Type 0
RespondsIn shared (Some f) q found result q' left seen f' =
    RespondsWhereIn shared (is_over f.function) f q found result q' left seen f'
RespondsIn shared None q found true q' left seen f' = ⊥
RespondsIn shared None q found false q' left seen f' = StaysQueueIn q q' found left seen × (f' ≡ None)

-- `Answers` in such a memory
abbrev pub AnswersIn : Bool → Hand → BareQueue → List ℕ → Bool → BareQueue → List ℕ → List ℕ → Hand → Type 0
AnswersIn shared (Hand.Done x o) q found true q' left seen h' =
    ((k : ℕ) → AtQueueIn shared (Transition.Answer k x o (as_seen seen (decided_writes q.ring x.chain o))) q found q' left)
    × (h' ≡ Hand.Answered x.unit x.chain.ticket)
AnswersIn shared (Hand.Done x o) q found false q' left seen h' = LetsGoIn q found x.chain q' left seen × (h' ≡ Hand.Empty)
AnswersIn shared h q found true q' left seen h' = ⊥
AnswersIn shared h q found false q' left seen h' = StaysQueueIn q q' found left seen × (h' ≡ h)
