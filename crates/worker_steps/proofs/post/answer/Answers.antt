use Rattle.std.proofs.Common.{rules}
use Rattle.close_audit.specs.Keeping.{KeepsGiven}
use Rattle.close_audit.specs.declared.kept.Kept.{Kept}
use Rattle.worker_steps.specs.Tallying.{Tallies}
use Rattle.worker_steps.proofs.Tallying.{answer_tallies, given_undirected}
use Rattle.worker_steps.proofs.post.answer.Goals as goal

-- a receipt was given, or a note
pub invariant_of-post : goal.invariant_of-post
invariant_of-post g c =
    let gave = c.in-Some-answer_on.ensures in
    let post = c.args.post.now in
    let hand = c.answer_on.new.hand in
    let even : (kept : Kept) → KeepsGiven post.kept c.in-Some-answer_on.given kept → Tallies post.lost post.part.share.amount kept hand = λ kept keeps. answer_tallies post.lost _ post.kept kept post.hand hand c.in-Some-answer_on.given _ _ _ _ gave.did.5 gave.gives keeps post.even in
    record { even = search (rules, even) }

-- it is what the hand had to give
pub keep-requires-clause-undirected : goal.keep-requires-clause-undirected
keep-requires-clause-undirected g c = given_undirected _ _ c.in-Some-answer_on.ensures.gives
