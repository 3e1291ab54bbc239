use Rattle.logical_unit.proofs.changes.Changes.note_command.Goals as goal

pub returns-in-Wide : goal.returns-in-Wide
returns-in-Wide c = λ blocks. rw c.in-Wide.is (c.note_wide.ensures c.args.bytes.now blocks)
