use Rattle.std.proofs.Common.{◌∙◌, ap, sym, List, ℕ, false}
use Rattle.scsi_codec.specs.ControlQueue.{function_bytes}
use Rattle.device_model.specs.World.{Opened}
use Rattle.phases.proofs.Directed.{responds, responds_away, responds_later, responds_none}
use Rattle.ring_core.specs.Writes.{stores_of}
use Rattle.device_model.specs.Parts.{answer_writes}
use Rattle.phases.specs.Inner.Stored.{responded_writes}
use Rattle.phases.proofs.Stored.{not_responded, none_stored}
use Rattle.phases.proofs.direct.phase_answer_tmf_in.Goals as goal

pub returns-then-not-finished-clause-responds : goal.returns-then-not-finished-clause-responds
returns-then-not-finished-clause-responds g c =
    let open_one : Opened = record { chain = c.open.inside.chain; function = c.open.inside.function } in
    rw (← c.in-Some.ensures.value, ← c.open.view_is)
    (responds_later g.M.Memory.shared open_one c.args.queue.now (g.M.Memory.may_be c.args.memory.now)
    (sym c.finished.ensures ∙ c.if-not-finished.true))

pub returns-then-not-may_complete-clause-responds :
    goal.returns-then-not-may_complete-clause-responds
returns-then-not-may_complete-clause-responds g c =
    let open_one : Opened = record { chain = c.open.inside.chain; function = c.open.inside.function } in
    rw (← c.in-Some.ensures.value, ← c.open.view_is, c.in-Some.ensures.after)
    (responds_away g.M.Memory.shared open_one c.args.queue.now (g.M.Memory.may_be c.args.memory.now)
    (sym c.finished.ensures ∙ c.if-not-finished.false) c.if-not-may_complete.ensures.may)

pub returns-else-not-may_complete-clause-responds :
    goal.returns-else-not-may_complete-clause-responds
returns-else-not-may_complete-clause-responds g c =
    let open_one : Opened = record { chain = c.open.inside.chain; function = c.open.inside.function } in
    rw (← c.in-Some.ensures.value, ← c.open.view_is, c.in-Some.ensures.after)
    (responds g.M.Memory.shared open_one c.args.queue.now c.answer_chain-answered.new.queue
    (g.M.Memory.may_be c.args.memory.now) (g.M.Memory.may_be c.answer_chain-answered.new.memory)
    c.of_function-response.result (sym c.finished.ensures ∙ c.if-not-finished.false)
    (c.of_function-response.ensures ∙ ap function_bytes c.answer.ensures) c.answer_chain-answered.ensures.seen
    c.answer_chain-answered.ensures.queue)

pub returns-in-None-clause-responds : goal.returns-in-None-clause-responds
returns-in-None-clause-responds g c =
    rw (← c.in-None.ensures.value, c.in-None.ensures.after)
    (responds_none g.M.Memory.shared c.args.queue.now (g.M.Memory.may_be c.args.memory.now))

pub returns-then-not-finished-clause-stores : goal.returns-then-not-finished-clause-stores
returns-then-not-finished-clause-stores g c =
    let f = c.args.function.now in
    let r = c.args.queue.now.ring in
    none_stored g.M.Memory.storing g.met.M.Memory.none (g.M.Memory.stored c.args.memory.now) (responded_writes f r false) (not_responded f r)

pub returns-then-not-may_complete-clause-stores :
    goal.returns-then-not-may_complete-clause-stores
returns-then-not-may_complete-clause-stores g c =
    let f = c.args.function.now in
    let r = c.args.queue.now.ring in
    none_stored g.M.Memory.storing g.met.M.Memory.none (g.M.Memory.stored c.args.memory.now) (responded_writes f r false) (not_responded f r)

pub returns-else-not-may_complete-clause-stores :
    goal.returns-else-not-may_complete-clause-stores
returns-else-not-may_complete-clause-stores g c =
    let found : g.M.Memory.Stores = g.M.Memory.stored c.args.memory.now in
    let chain = c.open.inside.chain in
    rw (← c.in-Some.ensures.value, ← c.open.view_is)
    (c.answer_chain-answered.ensures.stores
    ∙ ap (λ (bytes : List ℕ). g.M.Memory.storing found (stores_of (answer_writes c.args.queue.now.ring chain bytes)))
    (c.of_function-response.ensures ∙ ap function_bytes c.answer.ensures))

pub returns-in-None-clause-stores : goal.returns-in-None-clause-stores
returns-in-None-clause-stores g c =
    let f = c.args.function.now in
    let r = c.args.queue.now.ring in
    none_stored g.M.Memory.storing g.met.M.Memory.none (g.M.Memory.stored c.args.memory.now) (responded_writes f r false) (not_responded f r)
