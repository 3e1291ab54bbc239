-- What the phases do that answer a chain for which no command ran.
use Rattle.std.specs.Prelude.{ℕ, ◌≡◌, Bool, true, false, List, Option, Some, None}
use Rattle.scsi_codec.specs.ControlQueue.{function_bytes}
use Rattle.ring_core.specs.State.{RingState, PlainChain}
use Rattle.ring_core.specs.Writes.{Write}
use Rattle.request_intake.specs.Inventory.{PlainInventory}
use Rattle.task_mgmt.specs.Functions.{is_over, response_of}
use Rattle.device_model.specs.Parts.{Outcome, Slot, as_left, lengths_of, bytes_of, answer_writes}
use Rattle.device_model.specs.World.{Opened}
use Rattle.device_model.specs.Transitions.{Transition}
use Rattle.virtqueue.specs.Queue.{BareQueue, MayComplete}
use Rattle.phases.specs.Queue.{with_slot}
use Rattle.phases.specs.DoingQueue.{AtQueue, DoesQueue}

-- the writes that answer a chain as told
abbrev pub decided_writes : RingState → PlainChain → Outcome → List Write
decided_writes s c o = answer_writes s c (bytes_of (lengths_of c) o)

-- nothing changed
pub record StaysQueue (q q' : BareQueue) (m m' : List ℕ) : Type 0 where
  pub queue : q' ≡ q
  pub memory : m' ≡ m

-- the memory isn't the queue's, or the queue doesn't own the chain: nothing is changed, and the chain is let go
pub record LetsGo (q : BareQueue) (m : List ℕ) (c : PlainChain) (q' : BareQueue) (m' : List ℕ) : Type 0 where
  pub why : MayComplete q m c → ⊥
  pub stays : StaysQueue q q' m m'

abbrev pub Directs : Slot → BareQueue → List ℕ → Bool → BareQueue → List ℕ → Slot → Type 0
Directs (Slot.Direct c o) q m true q' m' s' =
    ((inventory : PlainInventory) → DoesQueue inventory (Transition.Direct c o (as_left m (decided_writes q.ring c o)))
    (with_slot (Slot.Direct c o) q) m (with_slot s' q') m') × (s' ≡ Slot.Empty)
Directs (Slot.Direct c o) q m false q' m' s' = LetsGo q m c q' m' × (s' ≡ Slot.Empty)
Directs s q m true q' m' s' = ⊥
Directs s q m false q' m' s' = StaysQueue q q' m m' × (s' ≡ s)

abbrev pub RespondsWhere : Bool → Opened → BareQueue → List ℕ → Bool → BareQueue → List ℕ → Option Opened → Type 0
RespondsWhere true f q m true q' m' f' =
    AtQueue (Transition.Respond f.chain (response_of f.function)
    (as_left m (answer_writes q.ring f.chain (function_bytes (response_of f.function))))) q m q' m' × (f' ≡ None)
RespondsWhere true f q m false q' m' f' = LetsGo q m f.chain q' m' × (f' ≡ None)
RespondsWhere false f q m true q' m' f' = ⊥
RespondsWhere false f q m false q' m' f' = StaysQueue q q' m m' × (f' ≡ Some f)

abbrev pub Responds : Option Opened → BareQueue → List ℕ → Bool → BareQueue → List ℕ → Option Opened → Type 0
Responds (Some f) q m result q' m' f' = RespondsWhere (is_over f.function) f q m result q' m' f'
Responds None q m true q' m' f' = ⊥
Responds None q m false q' m' f' = StaysQueue q q' m m' × (f' ≡ None)
