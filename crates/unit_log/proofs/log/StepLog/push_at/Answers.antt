use Rattle.std.proofs.Common.{◌<◌, sym, ap, ◌∙◌, subst, arith}
use Rattle.unit_log.specs.Inner.Kept.{reply_kept}
use Rattle.unit_log.specs.Recorded.{Logged, step_recorded}
use Rattle.unit_log.proofs.Bounds.{room_within}
use Rattle.unit_log.proofs.Latest.{recorded_more}
use Rattle.unit_log.proofs.log.StepLog.push_at.Goals as goal

pub invariant_of-self : goal.invariant_of-self
invariant_of-self c =
    let u = c.self.inside in
    let room = (room_within u.keeps_replies _ _ _ (subst (λ (l : Logged). 0 < l.room) (sym c.self.view_is) c.requires.room)).0 in
    recorded_more u.keeps_replies u.folded.keeps u.base u.kinds.cap _ u.folded.kinds u.kinds.kinds _ u.replies.items _ u.noted.items _
    c.args.step c.kind-kind.result c.args.reply c.self.invariant (omega (arith, room)) c.kind-kind.ensures
    (c.requires.reply ∙ ap (λ (l : Logged). reply_kept l.keeps (step_recorded c.args.step)) (sym c.self.view_is))
    c.push_at.ensures.cap c.push_at.ensures.kinds c.push_where.ensures.items c.push.ensures
