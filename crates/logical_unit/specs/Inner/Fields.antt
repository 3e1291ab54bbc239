-- Rests on `specs/Fields.antt`; no promise rests on it.
use Rattle.std.specs.Prelude.{◌≡◌}
use Rattle.backed_store.specs.Disks as disks
use Rattle.unit_model.specs.Contents.{capacity_of}
use Rattle.task_set.specs.Inner.Tasks.{seen_of}
use Rattle.logical_unit.specs.Inner.Noting.{AreRecorded}
use Rattle.logical_unit.specs.Inner.Parts.{AreKept, AreBased}
use Rattle.logical_unit.specs.Inner.Flushes.{AreFenced}
use Rattle.logical_unit.specs.Fields.{opening_of}
use Rattle.logical_unit.specs.declared.unit.UnitState.TheInside.{Inside}

pub record IsTold (u : Inside) : Type 0 where
  pub kept : AreKept (opening_of u) u.log.steps (disks.blocks_of u.store) u.attentions u.tasks u.last_tickets u.log.room
  pub based : AreBased u.log.base u.log.forgotten u.log.steps (seen_of u.tasks)
  pub sized : disks.size_of u.store ≡ capacity_of (opening_of u) u.log.steps
  pub noted : AreRecorded (opening_of u) u.log.steps u.changes
  pub flushing : AreFenced (opening_of u) u.log.steps u.fence (disks.hosted_of u.store)
