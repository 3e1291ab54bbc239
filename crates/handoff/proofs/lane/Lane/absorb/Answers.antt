use Rattle.std.proofs.Common.{ap, ◌∙◌}
use Rattle.handoff.specs.Ends.{PlainEnd}
use Rattle.handoff.proofs.Rules.{merges}
use Rattle.handoff.proofs.lane.Lane.absorb.Goals as goal

pub absorb-requires-clause-rule : goal.absorb-requires-clause-rule
absorb-requires-clause-rule c =
    merges _ _ _ _ (ap (λ (p : PlainEnd). p.knows.is_chief) c.chief.view_is ∙ c.requires.chief)
