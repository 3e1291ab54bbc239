-- What a fetch does: of a request queue, and of the control queue.
use Rattle.std.specs.Prelude.{ℕ, ◌≡◌, ◌≤◌, Bool, true, false, List, length, Option, Some, None, Result, Ok, Err}
use Rattle.foundation.specs.declared.NoMemory.{NoMemory}
use Rattle.ring_core.specs.Offer.{Offers, Nothing, MayLackMemory}
use Rattle.request_intake.specs.Inventory.{PlainInventory}
use Rattle.device_model.specs.Parts.{Slot}
use Rattle.device_model.specs.World.{PlainQueue, Opened}
use Rattle.device_model.specs.Transitions.{Transition}
use Rattle.phases.specs.DoingQueue.{DoesQueue}

-- the slot is empty, and the memory is the queue's
pub record IsFree (q : PlainQueue) (m : List ℕ) : Type 0 where
  pub empty : q.slot ≡ Slot.Empty
  pub fits : length m ≡ q.ring.memory

-- no fault broke the queue, and it has something for the device
pub record HasSome (q : PlainQueue) (m : List ℕ) : Type 0 where
  pub free : IsFree q m
  pub whole : q.ring.broken ≡ None
  pub has_some : Offers q.ring m Nothing → ⊥

-- a transition of a fetch from a request queue
abbrev pub IsRequestFetch : ℕ → Transition → Type 0
IsRequestFetch i (Transition.Arrive f x) = f.chain.ticket.queue ≡ i
IsRequestFetch i (Transition.Refuse f a) = f.chain.ticket.queue ≡ i
IsRequestFetch i (Transition.Break q n) = q ≡ i
IsRequestFetch i d = ⊥

-- a request arrived, was refused, or a fault broke the queue; nothing was there; or memory was refused
abbrev pub FetchesRequest : PlainInventory → List ℕ → PlainQueue → Result Bool NoMemory → PlainQueue → Type 0
FetchesRequest inventory m q (Ok true) q' =
    (2 ≤ q.ring.queue) × IsFree q m
    × ((d : Transition) × IsRequestFetch q.ring.queue d × DoesQueue inventory d q m q' m)
FetchesRequest inventory m q (Ok false) q' = (q' ≡ q) × (2 ≤ q.ring.queue → HasSome q m → ⊥)
FetchesRequest inventory m q (Err e) q' = (q' ≡ q) × (2 ≤ q.ring.queue) × IsFree q m × MayLackMemory q.ring m

-- a transition of a fetch from the control queue
abbrev pub IsControlFetch : Transition → Type 0
IsControlFetch (Transition.Refuse f a) = f.chain.ticket.queue ≡ 0
IsControlFetch (Transition.Open f g) = f.chain.ticket.queue ≡ 0
IsControlFetch (Transition.Break q n) = q ≡ 0
IsControlFetch d = ⊥

-- the function that it opens
abbrev pub opens : Transition → Option Opened
opens (Transition.Open f g) = Some (record { chain = f.chain; function = g })
opens d = None

-- a function opened, a request was answered directly, or a fault broke the queue; nothing was there, or a function is
-- open; or memory was refused
abbrev pub FetchesControl : PlainInventory → List ℕ → PlainQueue → Option Opened → Result Bool NoMemory → PlainQueue
    → Option Opened → Type 0
FetchesControl inventory m q f (Ok true) q' f' =
    (q.ring.queue ≡ 0) × IsFree q m × (f ≡ None)
    × ((d : Transition) × IsControlFetch d × DoesQueue inventory d q m q' m × (f' ≡ opens d))
FetchesControl inventory m q f (Ok false) q' f' =
    (q' ≡ q) × (f' ≡ f) × (q.ring.queue ≡ 0 → f ≡ None → HasSome q m → ⊥)
FetchesControl inventory m q f (Err e) q' f' =
    (q' ≡ q) × (f' ≡ f) × (q.ring.queue ≡ 0) × (f ≡ None) × IsFree q m × MayLackMemory q.ring m
