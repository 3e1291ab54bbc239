use Rattle.std.proofs.Common.{List, false, length, refl, sym, ap, subst}
use Rattle.guest_mem.specs.Memory.{LiesIn}
use Rattle.ring_core.specs.Writes.{Write}
use Rattle.device_model.specs.Events.{Event}
use Rattle.device_model.specs.Transitions.{Transition}
use Rattle.device_model.proofs.Seeing.{seen_as_left}
use Rattle.device_steps.specs.Apart.{standing, Stored, TurnsSeen}
use Rattle.phases.proofs.Behind.{each_read}
use Rattle.device_steps.proofs.Pokes.{lies_at, lies_not, one_stored}
use Rattle.device_steps.proofs.InMemory.{none_known}
use Rattle.device_steps.proofs.steps.poke_in.Goals as goal

pub write-requires : goal.write-requires
write-requires g c =
    record {
      inside = lies_at (g.M.Memory.extent c.args.memory.now) c.size.result c.args.addr (length c.args.bytes.now)
          c.lies_in.result c.size.ensures.size c.lies_in.ensures c.if-not-lies_in.false;
    }

pub returns-then-not-lies_in-clause-turns : goal.returns-then-not-lies_in-clause-turns
returns-then-not-lies_in-clause-turns g c =
    let shared = g.M.Memory.shared in
    let may_be = g.M.Memory.may_be c.args.memory.now in
    let x : Write = record { addr = c.args.addr; bytes = c.args.bytes.now } in
    let stored : List Write → Type 0 = Stored g.M.Memory.stored g.M.Memory.storing c.args.memory.now c.args.memory.now in
    λ d.
    each_read shared may_be may_be
    (λ found left seen. TurnsSeen stored seen (standing shared found d) (Event.Poke x) false (standing shared left d)) (λ m may. may)
    (λ m may. (
      refl,
      (λ lies.
          lies_not (g.M.Memory.extent c.args.memory.now) c.size.result c.args.addr (length c.args.bytes.now) c.lies_in.result
          c.size.ensures.size c.lies_in.ensures c.if-not-lies_in.true
          (subst (λ n. LiesIn n c.args.addr (length c.args.bytes.now)) (g.met.M.Memory.sized c.args.memory.now m may) lies)),
      refl,
      none_known g.M.Memory.stored g.M.Memory.storing g.met.M.Memory.none c.args.memory.now c.args.memory.now refl,
    ))

pub returns-clause-turns : goal.returns-clause-turns
returns-clause-turns g c =
    let shared = g.M.Memory.shared in
    let x : Write = record { addr = c.args.addr; bytes = c.args.bytes.now } in
    let inside = lies_at (g.M.Memory.extent c.args.memory.now) c.size.result c.args.addr (length c.args.bytes.now)
    c.lies_in.result c.size.ensures.size c.lies_in.ensures c.if-not-lies_in.false in
    λ d seen may.
    let (before, was, is) = c.write.ensures.written seen may in
    let lies = subst (λ n. LiesIn n c.args.addr (length c.args.bytes.now)) (sym (g.met.M.Memory.sized c.args.memory.now before was))
    inside in (
      before,
      was,
      (
        seen,
        seen_as_left shared seen,
        (
          Transition.Poke x,
          refl,
          lies,
          ap (λ m. standing shared m d) is,
          refl,
          one_stored g.M.Memory.storing (g.M.Memory.stored c.args.memory.now) (g.M.Memory.stored c.write.new.self) x
              c.write.ensures.stores,
        ),
      ),
    )
