use Rattle.std.proofs.Common.{ap, ◌∙◌}
use Rattle.handoff.specs.Ends.{PlainEnd}
use Rattle.handoff.proofs.Rules.{forks}
use Rattle.handoff.proofs.lane.Lane.another.Goals as goal

pub another-requires-clause-rule : goal.another-requires-clause-rule
another-requires-clause-rule c =
    forks _ _ (ap (λ (p : PlainEnd). p.knows.is_chief) c.chief.view_is ∙ c.requires.chief)
