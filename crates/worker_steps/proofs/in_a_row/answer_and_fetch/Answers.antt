use Rattle.std.proofs.Common.{◌≡◌, Some, subst, rules}
use Rattle.std.specs.Prelude.{is_some, IfSome}
use Rattle.phases.specs.Parts.{hand_of}
use Rattle.phases.specs.Answering.{Answers}
use Rattle.phases.specs.Giving.{given_in}
use Rattle.close_audit.specs.Keeping.{KeepsGiven}
use Rattle.close_audit.specs.declared.kept.Kept.{Kept}
use Rattle.worker_steps.specs.Tallying.{Tallies}
use Rattle.worker_steps.proofs.Tallying.{answer_tallies}
use Rattle.worker_steps.proofs.in_a_row.answer_and_fetch.Goals as goal

-- a receipt was given, or a note
pub invariant_of-post : goal.invariant_of-post
invariant_of-post g c =
    let call = c.answer_take_on-given.ensures in
    let did = call.did.5 in
    let post = c.args.post.now in
    let hand = c.answer_take_on-given.new.hand in
    let answers = subst (λ o. Answers (hand_of post.hand) call.did.0 call.did.1 (is_some o) did.queue did.memory (hand_of hand)) c.in-Some-given.is did.answers in
    let gives = subst (λ o. IfSome o (λ given. given_in post.hand ≡ Some given)) c.in-Some-given.is call.gives in
    let even : (kept : Kept) → KeepsGiven post.kept c.in-Some-given.given kept → Tallies post.lost post.part.share.amount kept hand = λ kept keeps. answer_tallies post.lost _ post.kept kept post.hand hand c.in-Some-given.given _ _ _ _ answers gives keeps post.even in
    record { even = search (rules, even) }
