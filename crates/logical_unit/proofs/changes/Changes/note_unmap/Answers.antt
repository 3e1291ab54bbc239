use Rattle.command_model.specs.UnmapList.{descriptors, is_named}
use Rattle.logical_unit.proofs.Ranging.{notes_named, notes_unchanged, unnamed-short}
use Rattle.logical_unit.proofs.changes.Changes.note_unmap.Goals as goal

pub returns-then-list-lt-UNMAP_HEADER_BYTES : goal.returns-then-list-lt-UNMAP_HEADER_BYTES
returns-then-list-lt-UNMAP_HEADER_BYTES c =
    notes_unchanged (is_named (descriptors c.args.list.now)) _ _ _ (λ b. unnamed-short c.args.list.now b c.if-list-lt-UNMAP_HEADER_BYTES.true)

pub returns : goal.returns
returns c =
    notes_named c.taken_descriptors-count.result c.args.list.now _ _ _ _ _ _ c.taken_descriptors-count.ensures.count c.split_at.ensures.back
    (c.make_room.ensures.notes c.args.capacity) c.add_extents.ensures.since c.add_extents.ensures.covers
