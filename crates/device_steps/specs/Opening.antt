-- The device that a configuration opens as.
use Rattle.std.specs.Prelude.{ℕ, ◌+◌, ◌≡◌, Bool, true, false, List, [], ◌∷◌, length, replicate, slice_get, Some, None, ⊤}
use Rattle.ring_core.specs.State.{features_of}
use Rattle.ring_core.specs.declared.layout.Features.{Features}
use Rattle.ring_core.specs.declared.layout.Form.{Form}
use Rattle.ring_core.specs.declared.layout.Layout.{Layout}
use Rattle.virtqueue.specs.Queue.{opening_queue}
use Rattle.phases.specs.Queue.{with_slot}
use Rattle.device_model.specs.Parts.{Slot}
use Rattle.device_model.specs.World.{PlainQueue, PlainWorld, IsNewSeat, Everywhere}
use Rattle.unit_model.specs.Jobs.{PlainJob}
use Rattle.unit_model.specs.Unit.{PlainUnit}
use Rattle.backed_store.specs.Disks.{size_of as disk_size}
use Rattle.backed_store.specs.declared.disk.Disk.{Disk}
use Rattle.logical_unit.specs.Disks.{unit_over, IsDiskOf}
use Rattle.request_intake.specs.Inventory.{inventory_of}
use Rattle.request_intake.specs.declared.inventory.UnitSpec.{UnitSpec}
use Rattle.config.specs.Config.{form_of, has_bit, is_config, size_of}
use Rattle.config.specs.declared.config.Config.{Config}
use Rattle.config.specs.declared.config.StartFault.{StartFault}
use Rattle.config.specs.declared.config.StartFault.TheVariants.{BadConfig, NoMemory}
use Rattle.device_opening.specs.Opening.{AreFresh}
use Rattle.device_steps.specs.Apart.{PlainDevice, standing}

-- the queues of these layouts, for which these features were agreed and of which nothing was fetched yet
pub record AreOpening
    (form : Form) (memory : ℕ) (features : Features) (layouts : List Layout) (queues : List PlainQueue) : Type 0 where
  pub count : length queues ≡ length layouts
  pub each : (k : ℕ) (l : Layout) → slice_get layouts k ≡ Some l → slice_get queues k
      ≡ Some (with_slot Slot.Empty (opening_queue form memory k l features))

-- for a memory of this size, whatever stands there: of each queue nothing was fetched, of each unit no step was taken, and
-- no seat has anything. Units keep no replies, since no receipt outlives a chain's service
pub record IsOpeningFor (size : ℕ) (c : Config) (w : PlainWorld) : Type 0 where
  pub form : Form
  pub agreed : form_of c.features ≡ Some form
  pub inventory : w.inventory ≡ inventory_of c.units.items
  pub queues : AreOpening form size (features_of c.features) c.queues.items w.queues
  pub units : AreFresh false c.units.items w.units
  pub workers : w.workers ≡ c.workers
  pub limit : w.limit ≡ c.handoff
  pub seats : length w.seats ≡ c.workers + 1
  pub idle : Everywhere (λ (k : ℕ) (s : _). IsNewSeat s) w.seats
  pub handed_off : Everywhere (λ (k : ℕ) (jobs : List PlainJob). jobs ≡ []) w.handed_off
  pub lists : length w.handed_off ≡ length w.seats
  pub aside : w.aside ≡ []
  pub woken : w.woken ≡ []
  pub function : w.function ≡ None
  pub buffers : w.buffers ≡ []
  pub missed : w.missed ≡ false
  pub waiting : w.waiting ≡ []
  pub tells_changes : w.tells_changes ≡ has_bit c.features 2

-- whichever bytes stand there, it is the device that the configuration opens as on a memory of this size
abbrev pub IsOpeningApart : ℕ → Config → PlainDevice → Type 0
IsOpeningApart size c d = (shared : Bool) (m : List ℕ) → IsOpeningFor size c (standing shared m d)

-- memory is the device's own, and zeros; of each queue nothing was fetched, of each unit no step was taken, and no seat has
-- anything
pub record IsOpening (c : Config) (w : PlainWorld) : Type 0 where
  pub memory : w.memory ≡ replicate (size_of c) 0
  pub own : w.shared ≡ false
  pub parts : IsOpeningFor (size_of c) c w

-- own: a unit may have a disk of its capacity
pub record IsDiskFor (u : UnitSpec) (disk : Disk) : Type 0 where
  pub size : disk_size disk ≡ u.blocks

-- there is a disk for each unit, which it may have
pub record AreDisksFor (wanted : List UnitSpec) (disks : List Disk) : Type 0 where
  pub count : length disks ≡ length wanted
  pub each : (k : ℕ) (u : UnitSpec) (disk : Disk) → slice_get wanted k ≡ Some u → slice_get disks k ≡ Some disk
      → IsDiskFor u disk

-- the units, each with its disk
abbrev pub over_disks : List PlainUnit → List Disk → List PlainUnit
over_disks (u ∷ units) (disk ∷ disks) = unit_over disk u ∷ over_disks units disks
over_disks units disks = units

-- a device as it opens, but with these disks
pub record IsOpeningOver (c : Config) (disks : List Disk) (w : PlainWorld) : Type 0 where
  pub bare : PlainWorld
  pub opening : IsOpening c bare
  pub is : w ≡ record bare { units = over_disks bare.units disks }

-- the device of some configuration, of which nothing has happened yet, whose disks these may be
pub record OpensFor (w : PlainWorld) (disks : List Disk) : Type 0 where
  pub config : Config
  pub taken : is_config config ≡ true
  pub opening : IsOpening config w
  pub are : AreDisksFor config.units.items disks

-- of whichever configuration it was the device, now it is that over these disks
abbrev pub OpensAnew : PlainWorld → List Disk → PlainWorld → Type 0
OpensAnew old disks new = (c : Config) → IsOpening c old → IsOpeningOver c disks new

-- a configuration with disks is refused as such exactly where the device doesn't take it, or they aren't its disks
abbrev pub OverRefusedAs : Config → List Disk → StartFault → Type 0
OverRefusedAs c disks BadConfig = is_config c ≡ true → AreDisksFor c.units.items disks → ⊥
OverRefusedAs c disks NoMemory = (is_config c ≡ true) × AreDisksFor c.units.items disks

-- the disks of the units, each as its history left it
abbrev pub AreDisksOf : List PlainUnit → List Disk → Type 0
AreDisksOf [] [] = ⊤
AreDisksOf (u ∷ units) (disk ∷ disks) = IsDiskOf u disk × AreDisksOf units disks
AreDisksOf units disks = ⊥
