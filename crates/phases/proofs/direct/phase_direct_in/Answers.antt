use Rattle.std.proofs.Common.{◌∙◌, ap, sym, List, ℕ, false}
use Rattle.phases.specs.Slots.{slot_of}
use Rattle.phases.proofs.Directed.{directs, directs_away, directs_none}
use Rattle.ring_core.specs.State.{PlainChain}
use Rattle.ring_core.specs.Writes.{stores_of}
use Rattle.device_model.specs.Parts.{answer_writes}
use Rattle.phases.specs.Inner.Stored.{directed_writes}
use Rattle.phases.proofs.Stored.{not_directed, none_stored}
use Rattle.phases.proofs.direct.phase_direct_in.Goals as goal

pub returns-then-not-is_direct-clause-directs : goal.returns-then-not-is_direct-clause-directs
returns-then-not-is_direct-clause-directs g c =
    directs_none g.M.Memory.shared (slot_of c.args.slot.now) c.args.queue.now (g.M.Memory.may_be c.args.memory.now)
    (sym c.is_direct.ensures ∙ c.if-not-is_direct.true)

pub returns-then-not-may_complete-clause-directs :
    goal.returns-then-not-may_complete-clause-directs
returns-then-not-may_complete-clause-directs g c =
    let ready = c.in-Direct.ready in
    rw (← c.in-Direct.ensures.value, c.in-Direct.ensures.after)
    (directs_away g.M.Memory.shared ready.chain c.into_parts-chain.result.0 ready.outcome c.args.queue.now
    (g.M.Memory.may_be c.args.memory.now) c.into_parts-chain.ensures.chain c.if-not-may_complete.ensures.may)

pub returns-clause-directs : goal.returns-clause-directs
returns-clause-directs g c =
    let ready = c.in-Direct.ready in
    rw (← c.in-Direct.ensures.value, c.in-Direct.ensures.after)
    (directs g.M.Memory.shared ready.chain c.into_parts-chain.result.0 ready.outcome c.args.queue.now
    c.answer_chain-answered.new.queue (g.M.Memory.may_be c.args.memory.now)
    (g.M.Memory.may_be c.answer_chain-answered.new.memory) c.into_parts-chain.result.1 c.into_parts-chain.ensures.chain
    c.into_parts-chain.ensures.answer c.answer_chain-answered.ensures.seen c.answer_chain-answered.ensures.queue)

pub returns-then-not-is_direct-clause-stores : goal.returns-then-not-is_direct-clause-stores
returns-then-not-is_direct-clause-stores g c =
    let s = slot_of c.args.slot.now in
    let r = c.args.queue.now.ring in
    none_stored g.M.Memory.storing g.met.M.Memory.none (g.M.Memory.stored c.args.memory.now) (directed_writes s r false) (not_directed s r)

pub returns-then-not-may_complete-clause-stores :
    goal.returns-then-not-may_complete-clause-stores
returns-then-not-may_complete-clause-stores g c =
    let s = slot_of c.args.slot.now in
    let r = c.args.queue.now.ring in
    none_stored g.M.Memory.storing g.met.M.Memory.none (g.M.Memory.stored c.args.memory.now) (directed_writes s r false) (not_directed s r)

pub returns-clause-stores : goal.returns-clause-stores
returns-clause-stores g c =
    let ready = c.in-Direct.ready in
    let r = c.args.queue.now.ring in
    let found : g.M.Memory.Stores = g.M.Memory.stored c.args.memory.now in
    rw (← c.in-Direct.ensures.value)
    (c.answer_chain-answered.ensures.stores
    ∙ ap (λ (k : PlainChain). g.M.Memory.storing found (stores_of (answer_writes r k c.into_parts-chain.result.1))) c.into_parts-chain.ensures.chain
    ∙ ap (λ (bytes : List ℕ). g.M.Memory.storing found (stores_of (answer_writes r ready.chain bytes))) c.into_parts-chain.ensures.answer)
