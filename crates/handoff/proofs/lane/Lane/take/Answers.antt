use Rattle.std.proofs.Common.{ap, ◌∙◌}
use Rattle.handoff.specs.Ends.{PlainEnd}
use Rattle.handoff.proofs.Rules.{takes, learns}
use Rattle.handoff.proofs.lane.Lane.take.Goals as goal

pub pop_as-requires-clause-rule : goal.pop_as-requires-clause-rule
pop_as-requires-clause-rule g c =
    (takes _ _ _ (ap (λ (p : PlainEnd). p.knows.accounts) c.end.view_is ∙ c.requires.one.1), learns _ _)
