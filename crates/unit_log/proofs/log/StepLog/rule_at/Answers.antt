use Rattle.std.proofs.Common.{slice_get, ap, ◌∙◌, arith}
use Rattle.unit_log.specs.Inner.Folding.{met_one}
use Rattle.unit_log.specs.Recorded.{steps_recorded}
use Rattle.unit_log.proofs.Places.{kind_there, kind_folded, rule_there, tells_is, tells_folded}
use Rattle.unit_log.proofs.log.StepLog.rule_at.Goals as goal

pub returns-then-place-self : goal.returns-then-place-self
returns-then-place-self c =
    let u = c.self.inside in
    let before = c.if-place-self.true in
    let behind = c.self.invariant.behind in
    rw (← c.self.view_is)
    (tells_folded u.folded.forgotten c.args.place (steps_recorded u.noted.items) c.rule_at.result (met_one (slice_get u.folded.kinds c.args.place))
    (ap met_one (kind_folded c.args.place u.folded.kinds u.kinds.kinds u.noted.items c.self.invariant.kinds_are c.self.invariant.folded_are (omega (arith, before, behind)))
    ∙ rule_there c.args.place (steps_recorded u.noted.items))
    c.rule_at.ensures)

pub returns : goal.returns
returns c =
    let u = c.self.inside in
    rw (← c.self.view_is)
    (tells_is u.folded.forgotten c.args.place (steps_recorded u.noted.items) c.rule_of_one.result
    (c.rule_of_one.ensures ∙ ap met_one (c.get.ensures ∙ kind_there c.args.place u.kinds.kinds u.noted.items c.self.invariant.kinds_are)
    ∙ rule_there c.args.place (steps_recorded u.noted.items)))
