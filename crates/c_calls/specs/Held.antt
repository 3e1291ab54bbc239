-- What a pointer that C keeps owns: a block with a device of either kind or a disk, and the right to free it; or nothing.
use Rattle.std.specs.Prelude.{Option, Some, None}
use Rattle.std.specs.Box.Ownership.{box_owns}
use Rattle.std.specs.declared.alloc.Global.{Global}
use Rattle.std.specs.contracts.impls.GlobalAllocator.TheImpl.{ghosts}
use Rattle.backed_store.specs.declared.disk.Disk.{Disk as UnitDisk}
use Rattle.backed_store.specs.contracts.disk.Disk as unit_disk
use Rattle.c_calls.specs.declared.served.Served.{Served}
use Rattle.c_calls.specs.contracts.served.Served as served
use Rattle.c_calls.specs.declared.live_served.LiveServed.{LiveServed}
use Rattle.c_calls.specs.contracts.live_served.LiveServed as live
use base.Fml.{Fml, ftrue}
use denote.RawPtr.{Ptr}

-- own: the heap, of which there is one
abbrev pub the_heap : Global
the_heap = record { memory = record { seal = tt } }

pub data Content : Type 0 where
  Device : Served → Content
  Disk : UnitDisk → Content
  Live : LiveServed → Content

abbrev pub held : Ptr → Option Content → Fml
held at None = ftrue
held at (Some (Content.Device d)) = box_owns (ghosts.dealloc_token the_heap) served.the_row at d
held at (Some (Content.Disk s)) = box_owns (ghosts.dealloc_token the_heap) unit_disk.the_row at s
held at (Some (Content.Live d)) = box_owns (ghosts.dealloc_token the_heap) live.the_row at d

-- the device that it owns, if it owns one, and the disk
abbrev pub device_in : Option Content → Option Served
device_in (Some (Content.Device d)) = Some d
device_in content = None

abbrev pub disk_in : Option Content → Option UnitDisk
disk_in (Some (Content.Disk s)) = Some s
disk_in content = None

abbrev pub live_in : Option Content → Option LiveServed
live_in (Some (Content.Live d)) = Some d
live_in content = None
