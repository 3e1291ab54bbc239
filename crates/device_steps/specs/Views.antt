-- What a look at the device finds.
use Rattle.std.specs.Prelude.{ℕ, ⊤, ◌≡◌, ◌≤◌, ◌+◌, ◌==◌, ◌&&◌, ◌++◌, Bool, true, false, cond, List, length, Option, Some, None, is_some, slice_get, find, ◌<◌, Result, Ok, Err}
use Rattle.std.specs.List.{list_any}
use Rattle.block_store.specs.Blocks.{run}
use Rattle.foundation.specs.declared.NoMemory.{NoMemory}
use Rattle.unit_model.specs.Contents.{blocks_of, capacity_of}
use Rattle.unit_model.specs.Unit.{PlainUnit}
use Rattle.logical_unit.specs.Changes.{PlainChanges, AreUnchanged}
use Rattle.ring_core.specs.declared.fault.RingFault.{RingFault}
use Rattle.device_model.specs.World.{PlainQueue, PlainWorld}

-- the unit of an address among these
abbrev pub unit_of : List PlainUnit → ℕ → ℕ → Option PlainUnit
unit_of units target lun = find (λ u. (u.opening.target == target) && (u.opening.lun == lun)) units

-- the unit of an address among the device's
abbrev pub unit_at : PlainWorld → ℕ → ℕ → Option PlainUnit
unit_at w target lun = unit_of w.units target lun

-- of these units one of the address stands at the index; or none has it
abbrev pub IsIndexAmong : List PlainUnit → ℕ → ℕ → Option ℕ → Type 0
IsIndexAmong units target lun (Some unit_index) =
    (u : PlainUnit) × (slice_get units unit_index ≡ Some u) × (u.opening.target ≡ target) × (u.opening.lun ≡ lun)
IsIndexAmong units target lun None =
    (unit_index : ℕ) (u : PlainUnit) → slice_get units unit_index ≡ Some u → u.opening.target ≡ target → u.opening.lun ≡ lun → ⊥

-- one of the device's units stands at the index and has the address; or none has it
abbrev pub IsIndexOf : PlainWorld → ℕ → ℕ → Option ℕ → Type 0
IsIndexOf w target lun unit_index = IsIndexAmong w.units target lun unit_index

-- the fault that broke a queue, if it is there
abbrev pub fault_of : Option PlainQueue → Option RingFault
fault_of None = None
fault_of (Some q) = q.ring.broken

-- DEVICE_NEEDS_RESET (VIRTIO 1.2, 2.1) where one of these queues is broken
abbrev pub status_of : List PlainQueue → ℕ
status_of queues = cond (list_any (λ q. is_some q.ring.broken) queues) 64 0

-- 64 where one of the device's queues is broken, else 0
abbrev pub device_status : PlainWorld → ℕ
device_status w = status_of w.queues

-- blocks of a unit, if it is there and they lie below its capacity
abbrev pub GivesBlocks : Option PlainUnit → ℕ → ℕ → List ℕ → Result Bool NoMemory → List ℕ → Type 0
GivesBlocks None first count old (Ok true) new = ⊥
GivesBlocks (Some u) first count old (Ok true) new = (first + count ≤ capacity_of u.opening u.steps) × (new
    ≡ old ++ run (blocks_of u.opening u.steps) first count)
GivesBlocks None first count old (Ok false) new = new ≡ old
GivesBlocks (Some u) first count old (Ok false) new = (capacity_of u.opening u.steps < first + count) × (new ≡ old)
GivesBlocks None first count old (Err e) new = ⊥
-- only a list that has to grow wants memory
GivesBlocks (Some u) first count old (Err e) new = (first + count ≤ capacity_of u.opening u.steps)
    × (0 < count) × (new ≡ old)

-- which blocks of a unit may have changed since some place of its history, if it is there
abbrev pub GivesChanges : Option PlainUnit → Option PlainChanges → Type 0
GivesChanges None None = ⊤
GivesChanges (Some u) (Some c) = (c.since ≤ length u.steps) × AreUnchanged u c
GivesChanges u c = ⊥
