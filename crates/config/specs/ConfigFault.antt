-- What is wrong with a configuration: the first cause that holds, and the first index that it is true of.
use Rattle.std.specs.Prelude.{ℕ, ◌-◌, ◌^◌, ◌<◌, ◌≡◌, ◌&&◌, not, nat_le, Bool, true, false, List, length, map, slice_get, Option, Some, None, position}
use Rattle.std.specs.List.{list_all}
use Rattle.ring_core.specs.declared.layout.Form.{Form}
use Rattle.ring_core.specs.declared.layout.Layout.{Layout}
use Rattle.virtqueue.specs.Queue.{placement_of}
use Rattle.command_model.specs.Identity.{is_identity}
use Rattle.request_intake.specs.Inventory.{address_of, stands_before, is_rising}
use Rattle.request_intake.specs.declared.inventory.UnitSpec.{UnitSpec}
use Rattle.config.specs.Config.{form_of, size_of, is_queue, is_unit, has_lun_0, has_own_naa, are_queues}
use Rattle.config.specs.declared.config.Config.{Config}
use Rattle.config.specs.declared.config_fault.ConfigFault.{ConfigFault}
use Rattle.config.specs.declared.config_fault.ConfigFault.TheVariants as fault

abbrev pub is_within : ℕ → ℕ → ℕ → Bool
is_within least most n = nat_le least n && nat_le n most

-- a queue's size, or else what its ring says of its layout
abbrev pub IsQueueFault : Form → ℕ → ℕ → Layout → ConfigFault → Type 0
IsQueueFault form memory queue_index l (fault.QueueSize k) = (k ≡ queue_index) × (is_within 2 1024 l.size ≡ false)
IsQueueFault form memory queue_index l (fault.QueueLayout k cause) =
    (k ≡ queue_index) × (is_within 2 1024 l.size ≡ true) × (placement_of form memory l ≡ Some cause)
IsQueueFault form memory queue_index l f = ⊥

-- the first queue that isn't taken has this fault
pub record FirstQueue (form : Form) (memory : ℕ) (queues : List Layout) (index : ℕ) (f : ConfigFault) : Type 0 where
  pub many : is_within 3 18 (length queues) ≡ true
  pub first : position (λ l. not (is_queue form memory l)) queues ≡ Some index
  pub layout : Layout
  pub at : slice_get queues index ≡ Some layout
  pub cause : IsQueueFault form memory index layout f

abbrev pub IsQueuesFault : Form → ℕ → List Layout → ConfigFault → Type 0
IsQueuesFault form memory queues fault.QueueCount = is_within 3 18 (length queues) ≡ false
IsQueuesFault form memory queues (fault.QueueSize queue_index) = FirstQueue form memory queues queue_index (fault.QueueSize queue_index)
IsQueuesFault form memory queues (fault.QueueLayout queue_index cause) =
    FirstQueue form memory queues queue_index (fault.QueueLayout queue_index cause)
IsQueuesFault form memory queues f = ⊥

abbrev pub IsUnitFault : ℕ → UnitSpec → ConfigFault → Type 0
IsUnitFault unit_index u (fault.UnitLun k) = (k ≡ unit_index) × (nat_le u.lun 16383 ≡ false)
IsUnitFault unit_index u (fault.UnitBlocks k) =
    (k ≡ unit_index) × (nat_le u.lun 16383 ≡ true) × (is_within 1 (2 ^ 40) u.blocks ≡ false)
IsUnitFault unit_index u (fault.UnitIdentity k) =
    (k ≡ unit_index) × (nat_le u.lun 16383 ≡ true) × (is_within 1 (2 ^ 40) u.blocks ≡ true) × (is_identity u.identity ≡ false)
IsUnitFault unit_index u f = ⊥

-- the first unit whose numbers aren't taken has this fault
pub record FirstUnit (units : List UnitSpec) (index : ℕ) (f : ConfigFault) : Type 0 where
  pub many : is_within 1 64 (length units) ≡ true
  pub first : position (λ u. not (is_unit u)) units ≡ Some index
  pub unit : UnitSpec
  pub at : slice_get units index ≡ Some unit
  pub cause : IsUnitFault index unit f

abbrev pub Rises : List UnitSpec → ℕ → Type 0
Rises units index = (before here : UnitSpec) → slice_get units (index - 1) ≡ Some before
    → slice_get units index ≡ Some here
    → stands_before (address_of before) (address_of here) ≡ true

-- the first unit that doesn't stand above the one before it
pub record Falls (units : List UnitSpec) (index : ℕ) : Type 0 where
  pub behind : 0 < index
  pub earlier : (k : ℕ) → 0 < k → k < index → Rises units k
  pub before : UnitSpec
  pub here : UnitSpec
  pub before_at : slice_get units (index - 1) ≡ Some before
  pub here_at : slice_get units index ≡ Some here
  pub falls : stands_before (address_of before) (address_of here) ≡ false

-- so many units as there may be, each of numbers that are taken
abbrev pub AreFit : List UnitSpec → Type 0
AreFit units = (is_within 1 64 (length units) ≡ true) × (list_all is_unit units ≡ true)

-- the first unit, by itself, then by order, then whose target has no LUN 0, then whose NAA designator another has
abbrev pub IsUnitsFault : List UnitSpec → ConfigFault → Type 0
IsUnitsFault units fault.UnitCount = is_within 1 64 (length units) ≡ false
IsUnitsFault units (fault.UnitLun unit_index) = FirstUnit units unit_index (fault.UnitLun unit_index)
IsUnitsFault units (fault.UnitBlocks unit_index) = FirstUnit units unit_index (fault.UnitBlocks unit_index)
IsUnitsFault units (fault.UnitIdentity unit_index) = FirstUnit units unit_index (fault.UnitIdentity unit_index)
IsUnitsFault units (fault.UnitOrder unit_index) = AreFit units × Falls units unit_index
IsUnitsFault units (fault.NoLun0 unit_index) =
    AreFit units × (is_rising (map address_of units) ≡ true)
    × (position (λ u. not (has_lun_0 units u.target)) units ≡ Some unit_index)
IsUnitsFault units (fault.UnitNaa unit_index) =
    AreFit units × (is_rising (map address_of units) ≡ true) × (list_all (λ u. has_lun_0 units u.target) units ≡ true)
    × (position (λ u. not (has_own_naa units u)) units ≡ Some unit_index)
IsUnitsFault units f = ⊥

-- of queues where the features name a form of them
abbrev pub IsQueuesFaultOf : Option Form → ℕ → List Layout → ConfigFault → Type 0
IsQueuesFaultOf None memory queues f = ⊥
IsQueuesFaultOf (Some form) memory queues f = IsQueuesFault form memory queues f

-- features and queues are taken on a memory of this size
abbrev pub HasQueues : ℕ → Config → Type 0
HasQueues size c = are_queues (form_of c.features) size c.queues.items ≡ true

-- and so are the workers; and the room of the hand-off
abbrev pub HasWorkers : ℕ → Config → Type 0
HasWorkers size c = HasQueues size c × (is_within 1 8 c.workers ≡ true)

abbrev pub HasHandoff : ℕ → Config → Type 0
HasHandoff size c = HasWorkers size c × (is_within 1 4096 c.handoff ≡ true)

-- on a memory of this size each cause where none of those before it holds: features, queues, workers, the hand-off, units
abbrev pub IsFaultFor : ℕ → Config → ConfigFault → Type 0
IsFaultFor size c fault.Pages = ⊥
IsFaultFor size c fault.Features = form_of c.features ≡ None
IsFaultFor size c fault.QueueCount = IsQueuesFaultOf (form_of c.features) size c.queues.items fault.QueueCount
IsFaultFor size c (fault.QueueSize queue_index) =
    IsQueuesFaultOf (form_of c.features) size c.queues.items (fault.QueueSize queue_index)
IsFaultFor size c (fault.QueueLayout queue_index cause) =
    IsQueuesFaultOf (form_of c.features) size c.queues.items (fault.QueueLayout queue_index cause)
IsFaultFor size c fault.Workers = HasQueues size c × (is_within 1 8 c.workers ≡ false)
IsFaultFor size c fault.Handoff = HasWorkers size c × (is_within 1 4096 c.handoff ≡ false)
IsFaultFor size c f = HasHandoff size c × IsUnitsFault c.units.items f

-- there are as many pages as there may be
abbrev pub HasPages : Config → Type 0
HasPages c = is_within 1 65536 c.pages ≡ true

-- on a memory of its own: the pages first, then that cause
abbrev pub IsFault : Config → ConfigFault → Type 0
IsFault c fault.Pages = is_within 1 65536 c.pages ≡ false
IsFault c f = HasPages c × IsFaultFor (size_of c) c f
