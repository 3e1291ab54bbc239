use Rattle.std.proofs.Common.{length, sym, ap, ◌∙◌}
use Rattle.backed_store.proofs.Lengths.{length-some}
use Rattle.backed_store.proofs.in_place.BlocksInPlace.len.Goals as goal

pub returns : goal.returns
returns c =
    let s = c.self.inside in
    sym (length-some s.disk.now s.first s.count) ∙ ap length c.self.view_is
