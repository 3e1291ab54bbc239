use Rattle.device_model.specs.Events.{Event}
use Rattle.device_steps.specs.Apart.{standing, Stored, TurnsSeenOrWants}
use Rattle.device_steps.proofs.InMemory.{each_before, none_known, turns_begun}
use Rattle.device_steps.proofs.Once.{fetch_behind, idle_once}
use Rattle.device_steps.proofs.device.Device.fetch_in.Goals as goal

pub returns-then-is_idle_in-clause-once : goal.returns-then-is_idle_in-clause-once
returns-then-is_idle_in-clause-once g c =
    let look = c.is_idle_in.ensures in
    let x = c.args.memory.now in
    let y = c.is_idle_in.new.memory in
    idle_once g.M.Memory.shared g.M.Memory.may_be (Stored g.M.Memory.stored g.M.Memory.storing x y) x c.args.self.now
    c.args.number y (none_known g.M.Memory.stored g.M.Memory.storing g.met.M.Memory.none x y look.stores) look.stays
    (λ m may. look.idle m may c.if-is_idle_in.true)

pub returns-in-0-clause-turns : goal.returns-in-0-clause-turns
returns-in-0-clause-turns g c =
    let shared = g.M.Memory.shared in
    let look = c.is_idle_in in
    let x = c.args.memory.now in
    let z = look.new.memory in
    let call = c.fetch_control in
    let y = call.new.memory in
    let before = g.M.Memory.may_be z in
    let after = g.M.Memory.may_be y in
    let d = c.args.self.now in
    let stored = Stored g.M.Memory.stored g.M.Memory.storing x y in
    rw (c.in-0.is) (each_before shared (g.M.Memory.may_be x) before after
    (λ found left seen.
    TurnsSeenOrWants stored seen (standing shared found d) (Event.Fetch 0) call.result (standing shared left call.new.self))
    look.ensures.stays
    (turns_begun g.M.Memory.stored g.M.Memory.storing x z y shared before after d (Event.Fetch 0) call.result call.new.self
    look.ensures.stores call.ensures.turns))

pub returns-in-0-clause-once : goal.returns-in-0-clause-once
returns-in-0-clause-once g c =
    let look = c.is_idle_in in
    let call = c.fetch_control in
    rw (c.in-0.is) (fetch_behind g.M.Memory.stored g.M.Memory.storing c.args.memory.now look.new.memory call.new.memory g.M.Memory.shared
    g.M.Memory.may_be c.args.self.now 0 call.result call.new.self look.ensures.stores look.ensures.stays call.ensures.once)

pub returns-in-1-clause-turns : goal.returns-in-1-clause-turns
returns-in-1-clause-turns g c =
    let shared = g.M.Memory.shared in
    let look = c.is_idle_in in
    let x = c.args.memory.now in
    let z = look.new.memory in
    let call = c.fetch_event in
    let y = call.new.memory in
    let before = g.M.Memory.may_be z in
    let after = g.M.Memory.may_be y in
    let d = c.args.self.now in
    let stored = Stored g.M.Memory.stored g.M.Memory.storing x y in
    rw (c.in-1.is) (each_before shared (g.M.Memory.may_be x) before after
    (λ found left seen.
    TurnsSeenOrWants stored seen (standing shared found d) (Event.Fetch 1) call.result (standing shared left call.new.self))
    look.ensures.stays
    (turns_begun g.M.Memory.stored g.M.Memory.storing x z y shared before after d (Event.Fetch 1) call.result call.new.self
    look.ensures.stores call.ensures.turns))

pub returns-in-1-clause-once : goal.returns-in-1-clause-once
returns-in-1-clause-once g c =
    let look = c.is_idle_in in
    let call = c.fetch_event in
    rw (c.in-1.is) (fetch_behind g.M.Memory.stored g.M.Memory.storing c.args.memory.now look.new.memory call.new.memory g.M.Memory.shared
    g.M.Memory.may_be c.args.self.now 1 call.result call.new.self look.ensures.stores look.ensures.stays call.ensures.once)

pub returns-in_default-clause-turns : goal.returns-in_default-clause-turns
returns-in_default-clause-turns g c =
    let shared = g.M.Memory.shared in
    let look = c.is_idle_in in
    let x = c.args.memory.now in
    let z = look.new.memory in
    let call = c.fetch_request in
    let y = call.new.memory in
    let before = g.M.Memory.may_be z in
    let after = g.M.Memory.may_be y in
    let d = c.args.self.now in
    let stored = Stored g.M.Memory.stored g.M.Memory.storing x y in
    each_before shared (g.M.Memory.may_be x) before after
    (λ found left seen.
    TurnsSeenOrWants stored seen (standing shared found d) (Event.Fetch c.args.number) call.result (standing shared left call.new.self))
    look.ensures.stays
    (turns_begun g.M.Memory.stored g.M.Memory.storing x z y shared before after d (Event.Fetch c.args.number) call.result call.new.self
    look.ensures.stores call.ensures.turns)

pub returns-in_default-clause-once : goal.returns-in_default-clause-once
returns-in_default-clause-once g c =
    let look = c.is_idle_in in
    let call = c.fetch_request in
    fetch_behind g.M.Memory.stored g.M.Memory.storing c.args.memory.now look.new.memory call.new.memory g.M.Memory.shared
    g.M.Memory.may_be c.args.self.now c.args.number call.result call.new.self look.ensures.stores look.ensures.stays call.ensures.once
