use Rattle.std.proofs.Common.{refl, sym, ap, ◌∙◌, arith}
use Rattle.worker_steps.proofs.Tallying.{tallies_on, leaving_due, left_due}
use Rattle.worker_steps.proofs.post.leave.Goals as goal

-- the hand had no receipt, and has none
pub invariant_of-post : goal.invariant_of-post
invariant_of-post g c =
    let did = c.leave_on.ensures.did in
    let leaves = c.leaving_unit.ensures in
    let post = c.args.post.now in
    let at = sym leaves ∙ c.in-Some.is in
    let none = left_due post.hand c.leave_on.new.hand _ _ _ _ _ _ at did.3 ∙ sym (leaving_due post.hand _ at) in
    record { even = tallies_on post.lost _ _ post.kept post.kept post.hand c.leave_on.new.hand (omega (arith, c.leave_on.ensures.counted.1, ap (λ z. z.now.share.amount) c.units.ensures.seat)) refl none post.even }
