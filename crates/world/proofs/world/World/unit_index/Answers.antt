use Rattle.world.proofs.world.World.unit_index.Goals as goal

pub returns : goal.returns
returns c = rw (← c.self.view_is) c.unit_index.ensures
