-- What it is to take a request from its queue.
use Rattle.std.specs.Prelude.{ℕ, ◌≡◌, true, false, List, Option, Some, None, Result, Ok, Err, length, ⊤}
use Rattle.foundation.specs.declared.NoMemory.{NoMemory}
use Rattle.ring_core.specs.State.{PlainChain, Owns}
use Rattle.request_intake.specs.Inventory.{PlainInventory}
use Rattle.unit_model.specs.Jobs.{PlainJob}
use Rattle.device_model.specs.Parts.{Slot}
use Rattle.virtqueue.specs.Queue.{BareQueue}
use Rattle.phases.specs.Queue.{with_slot}
use Rattle.phases.specs.Fetching.{FetchesRequest}
use Rattle.phases.specs.Inner.Fetching.{Arrives}
use Rattle.phases.specs.declared.taking.Taken.{Taken}
use Rattle.phases.specs.declared.taking.Taken.TheVariants as taken

-- a request that arrives is in hand, and would stand in the slot; a direct answer stands there
abbrev pub Decides : PlainInventory → PlainChain → List ℕ → Slot → Option PlainJob → Slot → Type 0
Decides inventory c bytes s (Some x) s' = Arrives inventory c bytes (Slot.Arrived x) × (s' ≡ s)
Decides inventory c bytes s None s' = Arrives inventory c bytes s'

-- so, as it was taken
abbrev pub IsTakenAs : PlainInventory → PlainChain → List ℕ → Slot → Taken → Slot → Type 0
IsTakenAs inventory c bytes s taken.Nothing s' = ⊥
IsTakenAs inventory c bytes s taken.Other s' = Decides inventory c bytes s None s'
IsTakenAs inventory c bytes s (taken.Arrived x) s' = Decides inventory c bytes s (Some x) s'

-- the queue is fetched from; a request that arrived is in hand, and would stand in the slot
abbrev pub TakesRequest : PlainInventory → List ℕ → Slot → BareQueue → Result Taken NoMemory → Slot → BareQueue → Type 0
TakesRequest inventory m s q (Ok taken.Nothing) s' q' =
    FetchesRequest inventory m (with_slot s q) (Ok false) (with_slot s' q')
TakesRequest inventory m s q (Ok taken.Other) s' q' =
    FetchesRequest inventory m (with_slot s q) (Ok true) (with_slot s' q')
TakesRequest inventory m s q (Ok (taken.Arrived x)) s' q' =
    FetchesRequest inventory m (with_slot s q) (Ok true) (with_slot (Slot.Arrived x) q') × (s' ≡ s)
TakesRequest inventory m s q (Err e) s' q' =
    FetchesRequest inventory m (with_slot s q) (Err e) (with_slot s' q')

-- the chain of a request that arrived is outstanding at the queue, whose memory has this size
abbrev pub IsOutstandingIn : ℕ → Result Taken NoMemory → BareQueue → Type 0
IsOutstandingIn size (Ok (taken.Arrived x)) q' = (size ≡ q'.ring.memory) × Owns q'.ring x.chain
IsOutstandingIn size r q' = ⊤
