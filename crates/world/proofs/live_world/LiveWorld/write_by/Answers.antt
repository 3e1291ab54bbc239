use Rattle.std.proofs.Common.{◌∙◌, Ok}
use Rattle.ring_core.specs.Writes.{Write}
use Rattle.device_model.specs.Events.{Event}
use Rattle.device_steps.specs.Apart.{Stored}
use Rattle.device_steps.proofs.InMemory.{turns_begun}
use Rattle.world.proofs.Lively.{steady_live, step_ran}
use Rattle.world.proofs.Asked.{made_live}
use Rattle.world.proofs.live_world.LiveWorld.write_by.Goals as goal

pub invariant_of-self : goal.invariant_of-self
invariant_of-self g c =
    let now = c.begin.new.self in
    let later = c.poke_in-wrote.new.memory in
    let size = g.M.Memory.extent later in
    let same = c.poke_in-wrote.ensures.size in
    let d = c.self.inside.device in
    λ m long.
    steady_live c.any_bytes_may_stand_there.ensures g.M.Memory.shared (g.M.Memory.extent c.self.inside.memory)
    (g.M.Memory.may_be now) (g.M.Memory.may_be later)
    (Stored g.M.Memory.stored g.M.Memory.storing now later) d
    (Event.Poke (record { addr = c.args.addr; bytes = c.args.bytes.now })) (Ok c.poke_in-wrote.result) d
    (λ k may. g.met.M.Memory.sized now k may ∙ c.begin.ensures.size)
    (λ k may. g.met.M.Memory.sized later k may ∙ same ∙ c.begin.ensures.size) c.size-bytes.ensures.some c.self.invariant
    (c.poke_in-wrote.ensures.turns d) m (long ∙ same ∙ c.begin.ensures.size)

pub returns-clause-steps : goal.returns-clause-steps
returns-clause-steps g c =
    let now = c.begin.new.self in
    let later = c.poke_in-wrote.new.memory in
    rw (← c.self.view_is) (
      now,
      c.begin.ensures.begun,
      turns_begun g.M.Memory.stored g.M.Memory.storing c.self.inside.memory now later g.M.Memory.shared (g.M.Memory.may_be now)
          (g.M.Memory.may_be later) c.self.inside.device (Event.Poke (record { addr = c.args.addr; bytes = c.args.bytes.now })) (Ok c.poke_in-wrote.result) c.self.inside.device c.begin.ensures.stores (c.poke_in-wrote.ensures.turns c.self.inside.device),
      tt,
    )

pub returns-clause-ran : goal.returns-clause-ran
returns-clause-ran g c =
    let now = c.begin.new.self in
    let later = c.poke_in-wrote.new.memory in
    rw (← c.self.view_is)
    (step_ran g.M.Memory.stored g.M.Memory.storing g.met.M.Memory.both g.M.Memory.shared
    (g.M.Memory.extent c.self.inside.memory) (g.M.Memory.may_be now) (g.M.Memory.may_be later)
    (record { memory = c.self.inside.memory; device = c.self.inside.device }) (Event.Poke (record { addr = c.args.addr; bytes = c.args.bytes.now })) (Ok c.poke_in-wrote.result)
    (record { memory = later; device = c.self.inside.device }) (λ k may. g.met.M.Memory.sized now k may ∙ c.begin.ensures.size)
    (λ k may. g.met.M.Memory.sized later k may ∙ c.poke_in-wrote.ensures.size ∙ c.begin.ensures.size)
    c.size-bytes.ensures.some
    (turns_begun g.M.Memory.stored g.M.Memory.storing c.self.inside.memory now later g.M.Memory.shared (g.M.Memory.may_be now)
    (g.M.Memory.may_be later) c.self.inside.device (Event.Poke (record { addr = c.args.addr; bytes = c.args.bytes.now })) (Ok c.poke_in-wrote.result) c.self.inside.device c.begin.ensures.stores (c.poke_in-wrote.ensures.turns c.self.inside.device)))

pub returns-clause-inside : goal.returns-clause-inside
returns-clause-inside g c =
    let now = c.begin.new.self in
    let d = c.self.inside.device in
    let x : Write = record { addr = c.args.addr; bytes = c.args.bytes.now } in
    rw (← c.self.view_is)
    (λ inside.
    made_live g.M.Memory.shared (g.M.Memory.extent c.self.inside.memory) (g.M.Memory.may_be now)
    (g.M.Memory.may_be c.poke_in-wrote.new.memory) (Stored g.M.Memory.stored g.M.Memory.storing now c.poke_in-wrote.new.memory) d
    x c.poke_in-wrote.result
    (λ k may. g.met.M.Memory.sized now k may ∙ c.begin.ensures.size) c.size-bytes.ensures.some inside
    (c.poke_in-wrote.ensures.turns d))
