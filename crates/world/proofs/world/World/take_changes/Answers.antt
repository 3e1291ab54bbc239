use Rattle.world.proofs.world.World.take_changes.Goals as goal

pub returns-clause-changes : goal.returns-clause-changes
returns-clause-changes c = rw (← c.self.view_is) c.take_changes.ensures.changes
