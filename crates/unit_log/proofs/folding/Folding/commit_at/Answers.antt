use Rattle.std.proofs.Common.{◌≡◌, true, ap, ◌∙◌}
use Rattle.unit_log.specs.Folding.{Folded}
use Rattle.unit_log.proofs.Tables.{found_kind}
use Rattle.unit_log.proofs.folding.Folding.commit_at.Goals as goal

pub returns : goal.returns
returns c =
    let on : c.self.inside.keeps ≡ true = ap (λ (f : Folded). f.keeps) c.self.view_is ∙ c.requires in
    rw (← c.self.view_is)
    (found_kind c.args.place c.ticket_at.result c.self.inside.gone.items c.self.inside.commits (c.self.invariant.stand on) c.ticket_at.ensures)
