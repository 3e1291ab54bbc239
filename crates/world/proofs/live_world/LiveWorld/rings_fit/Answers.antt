use Rattle.std.specs.Prelude.{replicate}
use Rattle.std.proofs.lemmas.List.{length-replicate}
use Rattle.world.proofs.Lively.{fits_live}
use Rattle.world.proofs.live_world.LiveWorld.rings_fit.Goals as goal

pub returns : goal.returns
returns g c =
    let size = g.M.Memory.extent c.self.inside.memory in
    rw (← c.self.view_is)
    (fits_live g.M.Memory.shared size c.self.inside.device (replicate size 0) (length-replicate size 0) c.self.invariant)
