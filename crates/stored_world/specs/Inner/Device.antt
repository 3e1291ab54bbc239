-- A device with the storages of its disks.
use Rattle.device_model.specs.World.{PlainWorld}
use Rattle.stored_world.specs.declared.stored.StoredWorld.{StoredWorld}

-- without the storages
abbrev pub world_of : StoredWorld → PlainWorld
world_of s = s.world
