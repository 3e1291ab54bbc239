use Rattle.block_store.specs.Blocks.{is_within}
use Rattle.logical_unit.proofs.Ranging.{notes_added}
use Rattle.logical_unit.proofs.changes.Changes.note.Goals as goal

pub returns-clause-notes : goal.returns-clause-notes
returns-clause-notes c =
    notes_added (is_within c.args.first c.args.count) _ _ _ _ _ (c.make_room.ensures.notes c.args.capacity) c.add_below.ensures.since c.add_below.ensures.covers
