use Rattle.std.proofs.Common.{sym, ap, subst, ◌∙◌, ◌&&◌, eqb, ltb, length, ℕ, Option}
use Rattle.ring_core.specs.Sound.{IsLeastOutstanding}
use Rattle.close_audit.specs.Closed.{IsFirst}
use Rattle.close_audit.proofs.Sourcing.{unused_elsewhere, unused_none, unused_some}
use Rattle.close_audit.proofs.least.first_unused.Goals as goal

pub returns-then-number-queue_index : goal.returns-then-number-queue_index
returns-then-number-queue_index c =
    unused_elsewhere c.args.queue_index c.args.queue.now c.log.ensures.sound c.first_accepted.result (λ e. c.if-number-queue_index.true (c.number.ensures ∙ e))
    (subst (λ (n : ℕ). IsFirst (λ t. eqb t.queue c.args.queue_index && ltb t.number n) c.first_accepted.result)
    (c.accepted-accepted.ensures ∙ ap (λ l. length l.accepted) c.log.ensures.log) c.first_accepted.ensures)

pub returns-in-None : goal.returns-in-None
returns-in-None c =
    unused_none c.args.queue_index c.args.queue.now c.log.ensures.sound (sym c.number.ensures ∙ c.if-number-queue_index.false)
    (subst (λ (r : Option ℕ). IsLeastOutstanding c.args.queue.now.ring r) c.in-None.is c.least_outstanding.ensures)

pub returns-in-Some : goal.returns-in-Some
returns-in-Some c =
    unused_some c.args.queue_index c.args.queue.now c.log.ensures.sound (sym c.number.ensures ∙ c.if-number-queue_index.false) c.in-Some.number
    (subst (λ (r : Option ℕ). IsLeastOutstanding c.args.queue.now.ring r) c.in-Some.is c.least_outstanding.ensures)
