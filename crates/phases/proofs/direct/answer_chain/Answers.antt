use Rattle.std.proofs.Common.{length, ℕ, refl, subst}
use Rattle.ring_core.specs.Writes.{scatter_writes}
use Rattle.ring_core.specs.Offer.{used_writes}
use Rattle.virtqueue.specs.Completing.{SeenBehind}
use Rattle.phases.proofs.Behind.{behind_both}
use Rattle.phases.proofs.Stored.{answer_stored}
use Rattle.phases.proofs.direct.answer_chain.Goals as goal

pub returns-clause-seen : goal.returns-clause-seen
returns-clause-seen g c =
    let ring = c.args.queue.now.ring in
    let answer = c.args.answer.now in
    let middle = g.M.Memory.may_be c.write_direct-len.new.memory in
    let after = g.M.Memory.may_be c.complete_in.new.memory in
    behind_both g.M.Memory.shared (g.M.Memory.may_be c.args.memory.now) middle after (scatter_writes c.args.chain.parts 0 answer)
    (used_writes ring c.args.chain.id (length answer)) c.write_direct-len.ensures.memory
    (subst (λ (n : ℕ). SeenBehind g.M.Memory.shared middle after (used_writes ring c.args.chain.id n))
    c.write_direct-len.ensures.written c.complete_in.ensures.seen)

pub returns-clause-stores : goal.returns-clause-stores
returns-clause-stores g c =
    answer_stored g.M.Memory.storing g.met.M.Memory.both (g.M.Memory.stored c.args.memory.now) (g.M.Memory.stored c.write_direct-len.new.memory)
    (g.M.Memory.stored c.complete_in.new.memory) c.args.queue.now.ring c.args.chain c.args.chain c.args.answer.now c.write_direct-len.result
    c.write_direct-len.ensures.stores refl c.write_direct-len.ensures.written c.complete_in.ensures.stores
