use Rattle.device_model.specs.Events.{Event}
use Rattle.std.proofs.Common.{◌≡◌, true, refl}
use Rattle.device_steps.specs.Apart.{standing, Stored, TurnsSeen}
use Rattle.device_steps.specs.Inner.Cursors.{StepsNext, Sees}
use Rattle.device_steps.specs.Settling.{asks}
use Rattle.device_steps.proofs.Once.{once_from}
use Rattle.device_steps.proofs.EachTurn.{did_seen, idle_in, wants_in, one_fetch}
use Rattle.device_steps.proofs.Woken.{fetch_next}
use Rattle.device_steps.proofs.device.Device.serve_next.Goals as goal

pub returns-in-Ok-true-clause-turns : goal.returns-in-Ok-true-clause-turns
returns-in-Ok-true-clause-turns g c =
    let shared = g.M.Memory.shared in
    let asked = asks c.args.queues in
    let i = c.args.number in
    let call = c.fetch_in-fetched in
    let d = c.args.self.now in
    let d' = call.new.self in
    let next = c.after_fetch.result in
    let stored = Stored g.M.Memory.stored g.M.Memory.storing in
    let sees = Sees (stored c.args.memory.now call.new.memory) in
    let on : c.in-Ok-true.field-0 ≡ true = c.in-Ok-true.field-0-test in
    one_fetch shared g.M.Memory.may_be stored asked c.args.most c.args.memory.now d next c.one.result call.new.memory d' c.requires.most
    c.one.ensures c.size-bytes.ensures.some
    (once_from shared g.M.Memory.may_be c.args.memory.now call.new.memory
    (λ found left seen. TurnsSeen (stored c.args.memory.now call.new.memory) seen (standing shared found d) (Event.Fetch i)
    c.in-Ok-true.field-0 (standing shared left d'))
    (λ found left seen. StepsNext asked (sees left seen) (standing shared found d) next (standing shared left d'))
    (λ found left seen was t.
    fetch_next asked (sees left seen) (standing shared found d) (standing shared left d') i next (c.requires.before found was)
    (c.requires.below found was) c.requires.there c.requires.asked
    (did_seen (stored c.args.memory.now call.new.memory) left seen (standing shared found d) (Event.Fetch i) c.in-Ok-true.field-0
    (standing shared left d') on refl t) (c.after_fetch.ensures shared left))
    c.in-Ok-true.ensures.once)

pub returns-in-Ok-false-clause-turns : goal.returns-in-Ok-false-clause-turns
returns-in-Ok-false-clause-turns g c =
    let call = c.fetch_in-fetched in
    let idle = idle_in g.M.Memory.shared (g.M.Memory.may_be c.args.memory.now) (g.M.Memory.may_be call.new.memory)
    (Stored g.M.Memory.stored g.M.Memory.storing c.args.memory.now call.new.memory) c.args.self.now (Event.Fetch c.args.number) c.in-Ok-false.field-0 call.new.self c.in-Ok-false.field-0-test
    c.size-bytes.ensures.some c.in-Ok-false.ensures.turns in
    (idle.0, (λ m may. ((idle.1 m may).0, λ on. (idle.1 m may).1)), idle.2)

pub returns-in-Err-clause-turns : goal.returns-in-Err-clause-turns
returns-in-Err-clause-turns g c =
    let call = c.fetch_in-fetched in
    let wants = wants_in g.M.Memory.shared (g.M.Memory.may_be c.args.memory.now) (g.M.Memory.may_be call.new.memory)
    (Stored g.M.Memory.stored g.M.Memory.storing c.args.memory.now call.new.memory) c.args.self.now (Event.Fetch c.args.number) c.in-Err.field-0 call.new.self c.size-bytes.ensures.some
    c.in-Err.ensures.turns in
    (wants.0, (λ m may. ((wants.1 m may).0, (c.requires.asked, (wants.1 m may).1))), wants.2)
