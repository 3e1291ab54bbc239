use Rattle.std.proofs.Common.{◌≡◌, ◌∙◌, ℕ, refl, sym, subst, inl, inr, arith}
use Rattle.device_steps.specs.Apart.{standing, Stored, PlainDevice}
use Rattle.device_steps.specs.Inner.Cursors.{NoneBeforeFetch}
use Rattle.device_steps.specs.Settling.{asks}
use Rattle.world.proofs.Rounds.{one_bit, row_settles_one, row_settles_look}
use Rattle.world.proofs.live_world.LiveWorld.round_on.Goals as goal

pub turn_on-requires : goal.turn_on-requires
turn_on-requires g c =
    record { most = c.requires.most; alone = one_bit c.args.number c.requires.number; before = c.requires.before }

pub returns-in-Ok-Some-clause-few : goal.returns-in-Ok-Some-clause-few
returns-in-Ok-Some-clause-few g c = (rw c.in-Ok-Some.field-0-is at c.in-Ok-Some.ensures.turns).few

pub returns-in-Ok-Some-clause-serves : goal.returns-in-Ok-Some-clause-serves
returns-in-Ok-Some-clause-serves g c =
    let t = rw c.in-Ok-Some.field-0-is at c.in-Ok-Some.ensures.turns in
    let alone = one_bit c.args.number c.requires.number in
    (_, alone.only, inl (t.begun, t.begins_so, t.none, t.serves))

pub returns-in-Ok-Some-clause-settles : goal.returns-in-Ok-Some-clause-settles
returns-in-Ok-Some-clause-settles g c =
    let next = rw c.in-Ok-Some.field-0-is at c.in-Ok-Some.ensures.settles in
    let alone = one_bit c.args.number c.requires.number in
    row_settles_one (Stored g.M.Memory.stored g.M.Memory.storing) _ c.args.number g.M.Memory.shared
    (g.M.Memory.extent c.args.self.now.memory) c.args.self.now c.in-Ok-Some.served c.turn_on.new.self alone.only next

pub returns-in-Ok-Some-clause-before : goal.returns-in-Ok-Some-clause-before
returns-in-Ok-Some-clause-before g c = (rw c.in-Ok-Some.field-0-is at c.in-Ok-Some.ensures.turns).before

pub returns-in-Ok-None-clause-serves : goal.returns-in-Ok-None-clause-serves
returns-in-Ok-None-clause-serves g c =
    let t = rw c.in-Ok-None.field-0-is at c.in-Ok-None.ensures.turns in
    let alone = one_bit c.args.number c.requires.number in
    (_, alone.only, inr (refl, inl t))

pub returns-in-Ok-None-clause-settles : goal.returns-in-Ok-None-clause-settles
returns-in-Ok-None-clause-settles g c =
    let t = rw c.in-Ok-None.field-0-is at c.in-Ok-None.ensures.turns in
    row_settles_look g.M.Memory.stored g.M.Memory.storing g.met.M.Memory.none c.args.number g.M.Memory.shared
    (g.M.Memory.extent c.args.self.now.memory) c.args.self.now c.turn_on.new.self t.same t.stores

pub returns-in-Ok-None-clause-before : goal.returns-in-Ok-None-clause-before
returns-in-Ok-None-clause-before g c =
    let t = rw c.in-Ok-None.field-0-is at c.in-Ok-None.ensures.turns in
    λ m. subst (λ (d : PlainDevice). NoneBeforeFetch (standing g.M.Memory.shared m d)) (sym t.same) (c.requires.before m)

pub returns-in-Err-clause-serves : goal.returns-in-Err-clause-serves
returns-in-Err-clause-serves g c =
    let alone = one_bit c.args.number c.requires.number in
    (_, alone.only, inr (refl, inr c.in-Err.ensures.turns))

pub returns-in-Err-clause-settles : goal.returns-in-Err-clause-settles
returns-in-Err-clause-settles g c =
    let t = c.in-Err.ensures.turns in
    row_settles_look g.M.Memory.stored g.M.Memory.storing g.met.M.Memory.none c.args.number g.M.Memory.shared
    (g.M.Memory.extent c.args.self.now.memory) c.args.self.now c.turn_on.new.self t.same t.stores

pub returns-in-Err-clause-before : goal.returns-in-Err-clause-before
returns-in-Err-clause-before g c =
    λ m.
    subst (λ (d : PlainDevice). NoneBeforeFetch (standing g.M.Memory.shared m d)) (sym c.in-Err.ensures.turns.same)
    (c.requires.before m)
