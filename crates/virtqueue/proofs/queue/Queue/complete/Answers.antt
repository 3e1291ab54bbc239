use Rattle.std.proofs.Common.{◌≡◌, ◌∙◌, refl}
use Rattle.ring_core.specs.Offer.{used_writes}
use Rattle.virtqueue.proofs.Own.{own}
use Rattle.virtqueue.proofs.queue.Queue.complete.Goals as goal

pub returns-clause-memory : goal.returns-clause-memory
returns-clause-memory c =
    let e = c.complete_in.ensures.memory in
    let seen : c.complete_in.new.memory ≡ e.0 = e.2.2 c.complete_in.new.memory refl ∙ e.2.1 in
    seen ∙ own c.args.memory.now e.0 (used_writes c.args.self.now.ring c.args.chain.id c.args.len) e.1

pub returns-clause-queue : goal.returns-clause-queue
returns-clause-queue c = c.complete_in.ensures.queue c.complete_in.new.memory refl
