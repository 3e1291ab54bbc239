use Rattle.std.proofs.Common.{◌≡◌, true, ap, ◌∙◌}
use Rattle.unit_log.specs.Folding.{Folded}
use Rattle.unit_log.proofs.Tables.{stands_kind}
use Rattle.unit_log.proofs.folding.Folding.has_commit.Goals as goal

pub returns : goal.returns
returns c =
    let on : c.self.inside.keeps ≡ true = ap (λ (f : Folded). f.keeps) c.self.view_is ∙ c.requires in
    let both = stands_kind c.args.place c.args.ticket c.self.inside.gone.items c.self.inside.commits (c.self.invariant.stand on) in
    rw (← c.self.view_is) (
      λ yes. both.0 (c.stands.ensures.0 yes),
      λ is. c.stands.ensures.1 (both.1 is),
    )
