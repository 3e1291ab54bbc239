-- The device that C keeps somewhere, if there is one, and the disk.
use Rattle.std.specs.Prelude.{Option, List, map}
use Rattle.backed_store.specs.declared.disk.Disk.{Disk as UnitDisk}
use Rattle.c_calls.specs.Held.{device_in, live_in, disk_in}
use Rattle.c_calls.specs.declared.device.Device.{Device}
use Rattle.c_calls.specs.declared.disk.Disk.{Disk}
use Rattle.c_calls.specs.declared.live_device.LiveDevice.{LiveDevice}
use Rattle.c_calls.specs.declared.live_served.LiveServed.{LiveServed}
use Rattle.c_calls.specs.declared.served.Served.{Served}

abbrev pub kept_in : Device → Option Served
kept_in d = device_in d.owner.content

abbrev pub live_at : LiveDevice → Option LiveServed
live_at d = live_in d.owner.content

abbrev pub disk_at : Disk → Option UnitDisk
disk_at d = disk_in d.owner.content

abbrev pub disks_at : List Disk → List (Option UnitDisk)
disks_at disks = map disk_at disks
