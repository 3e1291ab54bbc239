-- What a unit keeps.
use Rattle.std.specs.Prelude.{ℕ, List, [], ◌∷◌}
use Rattle.backed_store.specs.Disks as disks
use Rattle.backed_store.specs.declared.disk.Disk.{Disk}
use Rattle.unit_model.specs.Contents.{Opening}
use Rattle.task_set.specs.Tasks.{parked_of}
use Rattle.logical_unit.specs.Disks.{disk_bytes}
use Rattle.unit_model.specs.Unit.{PlainUnit}
use Rattle.logical_unit.specs.declared.unit.UnitState.TheInside.{Inside}

-- own: the bytes of all blocks of the disk that was handed in, if one was
abbrev pub content_of : List Disk → List ℕ
content_of [] = []
content_of (disk ∷ more) = disk_bytes disk

abbrev pub opening_of : Inside → Opening
opening_of u =
    record {
      target = u.facts.address.target;
      lun = u.facts.address.lun;
      luns = u.facts.luns.items;
      blocks = u.opening_blocks;
      calm = u.calm;
      content = content_of u.opened.items;
      profile = u.facts.profile;
      identity = u.facts.identity;
      backed = u.facts.backed;
    }

abbrev pub plain_unit : Inside → PlainUnit
plain_unit u =
    record {
      opening = opening_of u;
      steps = u.log.steps;
      parked = parked_of u.tasks;
      keeps_replies = u.log.keeps;
      storage = disks.storage_of u.store;
    }
