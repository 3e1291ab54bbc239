use Rattle.std.proofs.Common.{ap, ◌∙◌}
use Rattle.handoff.specs.Ends.{PlainEnd}
use Rattle.handoff.proofs.Rules.{puts, learns}
use Rattle.handoff.proofs.lane.Lane.put.Goals as goal

pub push_as-requires-clause-rule : goal.push_as-requires-clause-rule
push_as-requires-clause-rule g c =
    (puts _ _ _ _ _ (ap (λ (p : PlainEnd). p.knows.accounts) c.end.view_is ∙ c.requires.one.1), learns _ _)
