use Rattle.std.proofs.Common.{ap, ◌∙◌, arith}
use Rattle.unit_log.specs.Runs.{committed_one}
use Rattle.unit_log.proofs.Places.{kind_there, kind_folded}
use Rattle.unit_log.proofs.log.StepLog.commit_at.Goals as goal

pub returns-then-place-self : goal.returns-then-place-self
returns-then-place-self c =
    let u = c.self.inside in
    let before = c.if-place-self.true in
    let behind = c.self.invariant.behind in
    rw (← c.self.view_is)
    (c.commit_at.ensures
    ∙ ap committed_one (kind_folded c.args.place u.folded.kinds u.kinds.kinds u.noted.items c.self.invariant.kinds_are c.self.invariant.folded_are (omega (arith, before, behind))))

pub returns : goal.returns
returns c =
    let u = c.self.inside in
    rw (← c.self.view_is)
    (c.committed_of_one.ensures ∙ ap committed_one (c.get.ensures ∙ kind_there c.args.place u.kinds.kinds u.noted.items c.self.invariant.kinds_are))
