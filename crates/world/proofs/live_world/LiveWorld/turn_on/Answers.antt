use Rattle.std.proofs.Common.{◌≡◌, ◌∙◌, ℕ, List, length, sym, subst, arith}
use Rattle.device_steps.specs.Apart.{FitsIn, Stored}
use Rattle.device_steps.specs.Settling.{asks}
use Rattle.device_steps.specs.declared.cursor.Cursor.TheVariants as cursor
use Rattle.world.proofs.Lively.{sound_live, fits_live, few_live}
use Rattle.world.proofs.Rounds.{before_same, steady_round, settle_round, turns_round}
use Rattle.world.proofs.live_world.LiveWorld.turn_on.Goals as goal

pub turn_on-turned-requires : goal.turn_on-turned-requires
turn_on-turned-requires g c =
    let shared = g.M.Memory.shared in
    let d = c.self.inside.device in
    let now = c.begin.new.self in
    let size = g.M.Memory.extent c.self.inside.memory in
    let sized : (m : List ℕ) → g.M.Memory.may_be now m → length m ≡ size =
    λ m may. g.met.M.Memory.sized now m may ∙ c.begin.ensures.size in
    let some = c.size-begun.ensures.some in
    let there = sized some.0 some.1 in
    record {
      most = c.requires.most;
      room = g.met.M.Memory.fewer now 64 60 (omega arith) c.begin.ensures.room;
      ready = record {
        reading = c.begin.ensures.reading;
        some = some;
        whole = λ m may. (c.self.invariant m (sized m may)).whole;
        sound = sound_live c.all_are_sound.ensures shared size (g.M.Memory.may_be now) d sized c.self.invariant;
        fits = subst (λ n. FitsIn n d) (sym c.begin.ensures.size) (fits_live shared size d some.0 there c.self.invariant);
        few = few_live shared size d some.0 there c.self.invariant;
      };
      before = λ m may. before_same shared m (cursor.Fetch c.args.number) _ _ c.self.view_is (c.requires.before m);
      alone = c.requires.alone;
    }

pub invariant_of-self : goal.invariant_of-self
invariant_of-self g c =
    let now = c.begin.new.self in
    let later = c.turn_on-turned.new.memory in
    let same = c.turn_on-turned.ensures.size ∙ c.begin.ensures.size in
    λ m long.
    steady_round c.any_bytes_may_stand_there.ensures (asks c.args.queues) g.M.Memory.shared
    (g.M.Memory.extent c.self.inside.memory) g.M.Memory.may_be (Stored g.M.Memory.stored g.M.Memory.storing) c.args.most now
    c.self.inside.device c.turn_on-turned.result later
    c.turn_on-turned.new.self (λ k may. g.met.M.Memory.sized now k may ∙ c.begin.ensures.size)
    (λ k may. g.met.M.Memory.sized later k may ∙ same) c.size-bytes.ensures.some c.turn_on-turned.ensures.turns c.self.invariant m
    (long ∙ same)

pub returns-clause-size : goal.returns-clause-size
returns-clause-size g c = rw (← c.self.view_is) (c.turn_on-turned.ensures.size ∙ c.begin.ensures.size)

pub returns-clause-turns : goal.returns-clause-turns
returns-clause-turns g c =
    let now = c.begin.new.self in
    rw (← c.self.view_is)
    (turns_round g.M.Memory.stored g.M.Memory.storing g.met.M.Memory.none g.M.Memory.shared g.M.Memory.begins g.M.Memory.may_be (asks c.args.queues) c.args.most c.self.inside.memory
    c.self.inside.device now c.turn_on-turned.result c.turn_on-turned.new.memory c.turn_on-turned.new.self c.begin.ensures.begun c.begin.ensures.stores
    (λ m may. (c.self.invariant m (g.met.M.Memory.sized now m may ∙ c.begin.ensures.size)).whole.reached)
    c.turn_on-turned.ensures.turns)

pub returns-clause-settles : goal.returns-clause-settles
returns-clause-settles g c =
    let now = c.begin.new.self in
    let later = c.turn_on-turned.new.memory in
    rw (← c.self.view_is)
    (settle_round g.M.Memory.stored g.M.Memory.storing g.met.M.Memory.both (asks c.args.queues) g.M.Memory.shared
    (g.M.Memory.extent c.self.inside.memory) g.M.Memory.may_be c.args.most c.self.inside.memory c.self.inside.device now
    c.turn_on-turned.result later c.turn_on-turned.new.self c.begin.ensures.stores
    (λ k may. g.met.M.Memory.sized now k may ∙ c.begin.ensures.size)
    (λ k may. g.met.M.Memory.sized later k may ∙ c.turn_on-turned.ensures.size ∙ c.begin.ensures.size) c.size-bytes.ensures.some
    c.turn_on-turned.ensures.turns)
