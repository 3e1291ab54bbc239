use Rattle.std.proofs.Common.{◌≡◌, ◌≤◌, ◌+◌, Some, length, sym, ap, ◌∙◌, subst, arith}
use Rattle.std.proofs.lemmas.Bool.{lt-leb}
use Rattle.std.specs.Option.{option_map}
use Rattle.command_model.specs.PlainReply.{plain_of}
use Rattle.unit_model.specs.Receipts.{step_at, latest_kept}
use Rattle.unit_log.specs.Kept.{kind_of}
use Rattle.unit_log.specs.Recorded.{Logged, steps_recorded}
use Rattle.unit_log.proofs.Places.{kept_place, kind_folded}
use Rattle.unit_log.proofs.Confirming.{found, stands, length_recorded, folded_found}
use Rattle.unit_log.proofs.log.StepLog.has_commit.Goals as goal

pub returns-then-place-self : goal.returns-then-place-self
returns-then-place-self c =
    let u = c.self.inside in
    let given = option_map plain_of c.args.reply.now in
    let xs = u.noted.items in
    let before = c.if-place-self.true in
    let behind = c.self.invariant.behind in
    let low = c.self.invariant.low in
    let counted = c.self.invariant.counted in
    let many = length_recorded xs in
    let both = folded_found u.keeps_replies (length (steps_recorded xs)) c.args.place given c.args.ticket (step_at c.args.place (steps_recorded xs))
    (lt-leb (length (steps_recorded xs)) (c.args.place + latest_kept) (omega (arith, before, low, many, counted))) in
    let kind = kind_folded c.args.place u.folded.kinds u.kinds.kinds xs c.self.invariant.kinds_are c.self.invariant.folded_are (omega (arith, before, behind)) in
    rw (← c.self.view_is) (
      λ yes. both.0 (sym kind ∙ c.has_commit.ensures.0 yes),
      λ f. c.has_commit.ensures.1 (kind ∙ both.1 f),
    )

pub returns-then-is_commit_of : goal.returns-then-is_commit_of
returns-then-is_commit_of c =
    let keeps = c.self.inside.keeps_replies in
    let given = option_map plain_of c.args.reply.now in
    let xs = c.self.inside.noted.items in
    let replies = c.self.inside.replies.items in
    let there : Some c.in-Some.kind ≡ option_map kind_of (step_at c.args.place (steps_recorded xs)) =
    sym c.in-Some.is ∙ c.kind_at.ensures
    ∙ kept_place c.args.place c.args.self.now.base _ (subst (λ (l : Logged). l.base ≤ c.args.place) c.self.view_is c.if-place-self.false)
    ∙ sym (ap (λ (l : Logged). option_map kind_of (step_at c.args.place l.steps)) c.self.view_is) in
    let many : c.len.result ≡ length (steps_recorded xs) = c.len.ensures ∙ c.self.invariant.counted ∙ sym (length_recorded xs) in
    let kind = c.is_commit_of.ensures.0 c.if-is_commit_of.true in
    rw (← c.self.view_is) (
      λ yes.
          found keeps given c.args.ticket c.args.place (Some c.in-Some.kind) replies xs there c.self.invariant.replies_are c.len.result many
          (kind, c.agrees_there.ensures.0 yes),
      λ f.
          c.agrees_there.ensures.1
          (stands keeps given c.args.ticket c.args.place (Some c.in-Some.kind) replies xs there c.self.invariant.replies_are c.len.result many f).1,
    )
