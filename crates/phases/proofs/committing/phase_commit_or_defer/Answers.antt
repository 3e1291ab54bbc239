use Rattle.std.proofs.Common.{rules, ◌≡◌, false, [], ◌∷◌, Bool, ap, subst, sym, ◌∙◌}
use Rattle.unit_model.specs.Jobs.{PlainJob}
use Rattle.device_model.specs.Parts.{Hand}
use Rattle.phases.specs.DoingUnit.{with_more}
use Rattle.phases.specs.Parts.{hand_of}
use Rattle.phases.specs.Units.{Commits}
use Rattle.phases.specs.declared.hand.Hand as declared
use Rattle.phases.proofs.Defers.{deferred, to_commit}
use Rattle.phases.proofs.committing.phase_commit_or_defer.Goals as goal

pub returns : goal.returns
returns c =
    let x = c.in-Job.held.job in
    let there : hand_of c.phase_commit.new.hand ≡ Hand.Taken x = search (rules, to_commit) in
    let waits : Commits (hand_of c.args.hand.now) c.args.unit.now false c.phase_commit.new.unit (hand_of c.phase_commit.new.hand) =
    subst (λ (b : Bool). Commits (hand_of c.args.hand.now) c.args.unit.now b c.phase_commit.new.unit (hand_of c.phase_commit.new.hand))
    c.if-phase_commit.false c.phase_commit.ensures.commits in
    rw c.replace.ensures.after
    (deferred (hand_of c.args.hand.now) (hand_of c.phase_commit.new.hand) x c.args.unit.now c.phase_commit.new.unit c.args.aside.now
    c.push.new.self there waits
    (c.push.ensures ∙ ap (λ (j : PlainJob). with_more (j ∷ []) c.args.aside.now) c.into_parts-job.ensures.job))
