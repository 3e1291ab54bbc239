use Rattle.std.proofs.Common.{◌≡◌, ◌∙◌, ap, length, subst}
use Rattle.ring_core.specs.Parts.{readable_total, writable_total}
use Rattle.ring_core.specs.State.{PlainChain}
use Rattle.ring_core.specs.Writes.{Wrote, scatter_writes, stores_of}
use Rattle.request_intake.specs.declared.answer.ChainLengths.{ChainLengths}
use Rattle.unit_model.specs.Endings.{answer_of}
use Rattle.logical_unit.specs.Endings.{ending_of}
use Rattle.device_model.specs.Parts.{lengths_of}
use Rattle.phases.proofs.Answered.{both_lengths}
use Rattle.phases.proofs.job_in_hand.JobInHand.write.Goals as goal

pub returns-clause-written : goal.returns-clause-written
returns-clause-written g c =
    let before = g.M.Memory.may_be c.args.memory.now in
    let after = g.M.Memory.may_be c.write_outcome.new.memory in
    let chain = c.self.inside.job.chain in
    let e = ending_of c.in-Some.outcome in
    let n = c.lengths.result in
    let whole : n ≡ lengths_of chain = both_lengths n (readable_total chain.parts) (writable_total chain.parts)
    c.lengths.ensures.readable c.lengths.ensures.writable in
    rw (← c.self.view_is) (rw c.in-Some.is (record {
      written = c.write_outcome.ensures.written ∙ ap (λ (k : ChainLengths). length (answer_of k e)) whole;
      memory =
          subst (λ (k : ChainLengths). Wrote before after (scatter_writes chain.parts 0 (answer_of k e))) whole
          (subst (λ (d : PlainChain). Wrote before after (scatter_writes d.parts 0 (answer_of n e))) c.chain.ensures
          c.write_outcome.ensures.memory);
    }))

pub returns-clause-stores : goal.returns-clause-stores
returns-clause-stores g c =
    let found : g.M.Memory.Stores = g.M.Memory.stored c.args.memory.now in
    let left : g.M.Memory.Stores = g.M.Memory.stored c.write_outcome.new.memory in
    let chain = c.self.inside.job.chain in
    let e = ending_of c.in-Some.outcome in
    let n = c.lengths.result in
    let whole : n ≡ lengths_of chain = both_lengths n (readable_total chain.parts) (writable_total chain.parts)
    c.lengths.ensures.readable c.lengths.ensures.writable in
    rw (← c.self.view_is) (rw c.in-Some.is
    (subst (λ (k : ChainLengths). left ≡ g.M.Memory.storing found (stores_of (scatter_writes chain.parts 0 (answer_of k e)))) whole
    (subst (λ (d : PlainChain). left ≡ g.M.Memory.storing found (stores_of (scatter_writes d.parts 0 (answer_of n e)))) c.chain.ensures
    c.write_outcome.ensures.stores)))
