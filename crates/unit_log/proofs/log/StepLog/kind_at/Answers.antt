use Rattle.std.proofs.Common.{◌≤◌, sym, ap, ◌∙◌, subst}
use Rattle.std.specs.Option.{option_map}
use Rattle.unit_model.specs.Receipts.{step_at}
use Rattle.unit_log.specs.Kept.{kind_of}
use Rattle.unit_log.specs.Recorded.{Logged}
use Rattle.unit_log.proofs.Places.{kind_there, kept_place}
use Rattle.unit_log.proofs.log.StepLog.kind_at.Goals as goal

pub returns : goal.returns
returns c =
    let u = c.self.inside in
    c.get.ensures
    ∙ kind_there c.args.place u.kinds.kinds u.noted.items c.self.invariant.kinds_are
    ∙ ap (λ (l : Logged). option_map kind_of (step_at c.args.place l.steps)) c.self.view_is
    ∙ sym (kept_place c.args.place c.args.self.now.base _ (subst (λ (l : Logged). l.base ≤ c.args.place) c.self.view_is c.if-place-self.false))
