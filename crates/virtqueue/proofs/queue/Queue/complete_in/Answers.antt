use Rattle.std.proofs.Common.{◌∙◌}
use Rattle.ring_core.specs.Offer.{used_writes}
use Rattle.virtqueue.specs.AnyRing.{ring_state}
use Rattle.virtqueue.proofs.Seeing.{seen_behind}
use Rattle.virtqueue.proofs.queue.Queue.complete_in.Goals as goal

pub returns-then-wants_notice-clause-seen : goal.returns-then-wants_notice-clause-seen
returns-then-wants_notice-clause-seen g c =
    let written = c.complete-answered.new.memory in
    let later = c.wants_notice.new.memory in
    rw (← c.self.view_is)
    (seen_behind g.M.Memory.shared (g.M.Memory.may_be c.args.memory.now) (g.M.Memory.may_be written) (g.M.Memory.may_be later)
    (g.M.Memory.extent written) (used_writes (ring_state c.self.inside.ring) c.args.chain.id c.args.len)
    c.complete-answered.ensures.memory c.size-bytes.ensures.some (g.met.M.Memory.sized written)
    (λ m may. g.met.M.Memory.sized later m may ∙ c.wants_notice.ensures.size ∙ c.begin.ensures.size)
    (λ m alone may. g.met.M.Memory.own written c.begin.new.self m alone c.begin.ensures.begun (c.wants_notice.ensures.stays m may)))

pub returns-else-wants_notice-clause-seen : goal.returns-else-wants_notice-clause-seen
returns-else-wants_notice-clause-seen g c =
    let written = c.complete-answered.new.memory in
    let later = c.wants_notice.new.memory in
    rw (← c.self.view_is)
    (seen_behind g.M.Memory.shared (g.M.Memory.may_be c.args.memory.now) (g.M.Memory.may_be written) (g.M.Memory.may_be later)
    (g.M.Memory.extent written) (used_writes (ring_state c.self.inside.ring) c.args.chain.id c.args.len)
    c.complete-answered.ensures.memory c.size-bytes.ensures.some (g.met.M.Memory.sized written)
    (λ m may. g.met.M.Memory.sized later m may ∙ c.wants_notice.ensures.size ∙ c.begin.ensures.size)
    (λ m alone may. g.met.M.Memory.own written c.begin.new.self m alone c.begin.ensures.begun (c.wants_notice.ensures.stays m may)))
