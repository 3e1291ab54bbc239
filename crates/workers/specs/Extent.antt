-- How large a host is, and when one starts.
use Rattle.std.specs.Prelude.{◌≡◌, ℕ, Bool, true, false, List, [], length, Option, slice_get, map, Result, Ok, Err}
use Rattle.scsi_codec.specs.declared.lun.Address.{Address}
use Rattle.request_intake.specs.declared.inventory.UnitSpec.{UnitSpec}
use Rattle.request_intake.specs.Inventory.{address_of}
use Rattle.lock_scopes.specs.declared.acts.Act.{Act}
use Rattle.lock_scopes.specs.Acts.{acts_with}
use Rattle.config.specs.declared.config.Config.{Config}
use Rattle.config.specs.declared.config.StartFault.{StartFault}
use Rattle.config.specs.declared.config.StartFault.TheVariants.{BadConfig, NoMemory}
use Rattle.config.specs.Config.{has_bit, is_config}

-- own: how many workers and queues it has, the units that it was opened with, whether its driver is told of capacities
-- that change, and what its operator did to units, in order
pub record Extent : Type 0 where
  pub workers : ℕ
  pub units : List UnitSpec
  pub queues : ℕ
  pub told : Bool
  pub acts : List Act

-- the driver is told where it agreed to VIRTIO_SCSI_F_CHANGE, bit 2 (VIRTIO 1.2 §5.6.3)
abbrev pub extent_of : Config → Extent
extent_of c =
    record {
      workers = c.workers;
      units = c.units.items;
      queues = length c.queues.items;
      told = has_bit c.features 2;
      acts = [];
    }

-- own: the address of the unit at an index, if there is one
abbrev pub address_at : ℕ → Extent → Option Address
address_at unit_index h = slice_get (map address_of h.units) unit_index

-- own: the host after one more act of its operator, if it was made
abbrev pub with_act : Option Act → Extent → Extent
with_act act h = record h { acts = acts_with act h.acts }

-- own: the configuration with so many workers in place of its own
abbrev pub with_workers : ℕ → Config → Config
with_workers n c = record c { workers = n }

-- own: a host starts with so many workers, or is refused as a device with so many is
abbrev pub Starts : Config → ℕ → Result Extent StartFault → Type 0
Starts c n (Ok host) = (is_config (with_workers n c) ≡ true) × (host ≡ extent_of (with_workers n c))
Starts c n (Err BadConfig) = is_config (with_workers n c) ≡ false
Starts c n (Err NoMemory) = is_config (with_workers n c) ≡ true
