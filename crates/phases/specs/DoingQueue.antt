-- What a phase does on a queue that one lock lends: what a transition asks there, and what it leaves.
use Rattle.std.specs.Prelude.{ℕ, ◌≡◌, Bool, List}
use Rattle.request_intake.specs.Inventory.{PlainInventory}
use Rattle.device_model.specs.Parts.{Slot}
use Rattle.device_model.specs.World.{PlainQueue}
use Rattle.device_model.specs.Transitions.{Transition}
use Rattle.device_model.specs.Phases.{AsksQueue, queue_after, bytes_after}
use Rattle.virtqueue.specs.Queue.{BareQueue}
use Rattle.phases.specs.Queue.{with_slot}

-- a transition on a queue with memory, where these units are
pub record DoesQueue (inventory : PlainInventory) (d : Transition) (q : PlainQueue) (m : List ℕ) (q' : PlainQueue)
    (m' : List ℕ) : Type 0 where
  pub asks : (shared missed : Bool) → AsksQueue shared inventory missed d q m
  pub queue : q' ≡ queue_after d m q
  pub memory : m' ≡ bytes_after d m

-- a transition on a queue with memory, whatever units there are and whatever stands in the queue's slot
abbrev pub AtQueue : Transition → BareQueue → List ℕ → BareQueue → List ℕ → Type 0
AtQueue d q m q' m' = (inventory : PlainInventory) (s : Slot)
    → DoesQueue inventory d (with_slot s q) m (with_slot s q') m'
