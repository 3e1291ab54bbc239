use Rattle.std.proofs.Common.{◌∙◌, refl, sym, subst, arith}
use Rattle.device_steps.specs.Apart.{FitsIn, standing}
use Rattle.device_steps.specs.Settling.{asks}
use Rattle.device_steps.proofs.InMemory.{none_known}
use Rattle.world.proofs.Lively.{fits_live, few_live}
use Rattle.world.proofs.Rounds.{leaves_by}
use Rattle.world.proofs.live_world.LiveWorld.has_step.Goals as goal

pub has_step-has-requires : goal.has_step-has-requires
has_step-has-requires g c =
    let shared = g.M.Memory.shared in
    let d = c.self.inside.device in
    let now = c.begin.new.self in
    let size = g.M.Memory.extent c.self.inside.memory in
    let some = c.size-begun.ensures.some in
    let there = g.met.M.Memory.sized now some.0 some.1 ∙ c.begin.ensures.size in
    record {
      reading = c.begin.ensures.reading;
      room = g.met.M.Memory.fewer now 64 20 (omega arith) c.begin.ensures.room;
      few = few_live shared size d some.0 there c.self.invariant;
      fits = subst (λ n. FitsIn n d) (sym c.begin.ensures.size) (fits_live shared size d some.0 there c.self.invariant);
    }

pub invariant_of-self : goal.invariant_of-self
invariant_of-self g c = λ m long. c.self.invariant m (long ∙ c.has_step-has.ensures.size ∙ c.begin.ensures.size)

pub returns-clause-size : goal.returns-clause-size
returns-clause-size g c = rw (← c.self.view_is) (c.has_step-has.ensures.size ∙ c.begin.ensures.size)

pub returns-clause-looks : goal.returns-clause-looks
returns-clause-looks g c =
    let shared = g.M.Memory.shared in
    let d = c.self.inside.device in
    let now = c.begin.new.self in
    let finds = c.has_step-has.ensures.denies in
    rw (← c.self.view_is)
    (record {
      begun = now;
      begins_so = c.begin.ensures.begun;
      same = refl;
      stays = λ m may. (finds m may).0;
      stores = none_known g.M.Memory.stored g.M.Memory.storing g.met.M.Memory.none c.self.inside.memory c.has_step-has.new.memory
          (c.has_step-has.ensures.stores ∙ c.begin.ensures.stores);
      finds = λ m may.
          let f = finds m may in
          leaves_by (asks c.args.queues) c.has_step-has.result (standing shared m d)
          (c.self.invariant m (g.met.M.Memory.sized now m f.0 ∙ c.begin.ensures.size)).whole.reached f.1;
    })
