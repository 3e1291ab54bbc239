use Rattle.std.proofs.Common.{◌≡◌, ◌∙◌, ℕ, List, length, sym, subst, arith}
use Rattle.device_model.specs.Events.{plain_event}
use Rattle.device_steps.specs.Apart.{FitsIn, Stored}
use Rattle.device_steps.proofs.InMemory.{turns_begun}
use Rattle.device_steps.proofs.Once.{fetch_known}
use Rattle.world.proofs.Lively.{steady_live, sound_live, fits_live, few_live, step_ran}
use Rattle.world.proofs.live_world.LiveWorld.step_by.Goals as goal

pub step_in-stepped-requires : goal.step_in-stepped-requires
step_in-stepped-requires g c =
    let shared = g.M.Memory.shared in
    let d = c.self.inside.device in
    let now = c.begin.new.self in
    let size = g.M.Memory.extent c.self.inside.memory in
    let sized : (m : List ℕ) → g.M.Memory.may_be now m → length m ≡ size =
    λ m may. g.met.M.Memory.sized now m may ∙ c.begin.ensures.size in
    let some = c.size-begun.ensures.some in
    let there = sized some.0 some.1 in
    let sound = sound_live c.all_are_sound.ensures shared size (g.M.Memory.may_be now) d sized c.self.invariant in
    let one = sound some.0 some.1 in
    record {
      reading = c.begin.ensures.reading;
      room = g.met.M.Memory.fewer now 64 5 (omega arith) c.begin.ensures.room;
      sound = sound;
      fits = subst (λ n. FitsIn n d) (sym c.begin.ensures.size) (fits_live shared size d some.0 there c.self.invariant);
      few = few_live shared size d some.0 there c.self.invariant;
      working = one.working;
      seated = one.seated;
      lists = one.room.lists;
    }

pub invariant_of-self : goal.invariant_of-self
invariant_of-self g c =
    let now = c.begin.new.self in
    let later = c.step_in-stepped.new.memory in
    let size = g.M.Memory.extent later in
    let same = c.step_in-stepped.ensures.size in
    λ m long.
    steady_live c.any_bytes_may_stand_there.ensures g.M.Memory.shared (g.M.Memory.extent c.self.inside.memory)
    (g.M.Memory.may_be now) (g.M.Memory.may_be later)
    (Stored g.M.Memory.stored g.M.Memory.storing now later) c.self.inside.device (plain_event c.args.event.now)
    c.step_in-stepped.result c.step_in-stepped.new.self
    (λ k may. g.met.M.Memory.sized now k may ∙ c.begin.ensures.size)
    (λ k may. g.met.M.Memory.sized later k may ∙ same ∙ c.begin.ensures.size) c.size-bytes.ensures.some c.self.invariant
    c.step_in-stepped.ensures.turns m (long ∙ same ∙ c.begin.ensures.size)

pub returns-clause-size : goal.returns-clause-size
returns-clause-size g c = rw (← c.self.view_is) (c.step_in-stepped.ensures.size ∙ c.begin.ensures.size)

pub returns-clause-steps : goal.returns-clause-steps
returns-clause-steps g c =
    let now = c.begin.new.self in
    let later = c.step_in-stepped.new.memory in
    rw (← c.self.view_is) (
      now,
      c.begin.ensures.begun,
      turns_begun g.M.Memory.stored g.M.Memory.storing c.self.inside.memory now later g.M.Memory.shared (g.M.Memory.may_be now)
          (g.M.Memory.may_be later) c.self.inside.device (plain_event c.args.event.now) c.step_in-stepped.result c.step_in-stepped.new.self c.begin.ensures.stores c.step_in-stepped.ensures.turns,
      fetch_known g.M.Memory.stored g.M.Memory.storing c.self.inside.memory now later g.M.Memory.shared g.M.Memory.may_be now
          c.self.inside.device (plain_event c.args.event.now) c.step_in-stepped.result c.step_in-stepped.new.self
          c.begin.ensures.stores c.step_in-stepped.ensures.once,
    )

pub returns-clause-ran : goal.returns-clause-ran
returns-clause-ran g c =
    let now = c.begin.new.self in
    let later = c.step_in-stepped.new.memory in
    rw (← c.self.view_is)
    (step_ran g.M.Memory.stored g.M.Memory.storing g.met.M.Memory.both g.M.Memory.shared
    (g.M.Memory.extent c.self.inside.memory) (g.M.Memory.may_be now) (g.M.Memory.may_be later)
    (record { memory = c.self.inside.memory; device = c.self.inside.device }) (plain_event c.args.event.now) c.step_in-stepped.result
    (record { memory = later; device = c.step_in-stepped.new.self }) (λ k may. g.met.M.Memory.sized now k may ∙ c.begin.ensures.size)
    (λ k may. g.met.M.Memory.sized later k may ∙ c.step_in-stepped.ensures.size ∙ c.begin.ensures.size)
    c.size-bytes.ensures.some
    (turns_begun g.M.Memory.stored g.M.Memory.storing c.self.inside.memory now later g.M.Memory.shared (g.M.Memory.may_be now)
    (g.M.Memory.may_be later) c.self.inside.device (plain_event c.args.event.now) c.step_in-stepped.result c.step_in-stepped.new.self c.begin.ensures.stores c.step_in-stepped.ensures.turns))
