use Rattle.std.proofs.Common.{◌∙◌, sym, subst, arith}
use Rattle.device_model.specs.Events.{Event}
use Rattle.device_steps.specs.Apart.{standing, Stored}
use Rattle.device_steps.specs.Inner.Apart.{TurnsIn}
use Rattle.device_steps.specs.Inner.Cursors.{of_function, NoStart, StepsNext, Sees, TurnsBy, TurnsFirst}
use Rattle.device_steps.specs.declared.cursor.Cursor.TheVariants as cursor
use Rattle.device_steps.specs.Settling.{asks}
use Rattle.device_steps.proofs.InMemory.{each_before, each_from, still_known, on_known, turn_known}
use Rattle.device_steps.proofs.EachTurn.{did_in, idle_in, firsts_in, none_in, SeenToo, by_other, first_other, one_in, still_ready, turns_before}
use Rattle.device_steps.proofs.Woken.{function_next, raise_next}
use Rattle.device_steps.proofs.device.Device.from_function.Goals as goal

pub returns-then-turned-clause-turns : goal.returns-then-turned-clause-turns
returns-then-turned-clause-turns g c =
    let shared = g.M.Memory.shared in
    let asked = asks c.args.queues in
    let call = c.turn_function-turned in
    let x = c.args.memory.now in
    let y = call.new.memory in
    let d = c.args.self.now in
    let d' = call.new.self in
    let before = g.M.Memory.may_be x in
    let after = g.M.Memory.may_be y in
    let stored = Stored g.M.Memory.stored g.M.Memory.storing in
    one_in shared g.M.Memory.may_be stored asked c.args.most x d cursor.Start c.one.result y d' c.requires.most c.one.ensures
    c.size-function.ensures.some
    (each_from shared before after
    (λ found left seen. TurnsFirst (Sees (stored x y) left seen) of_function (standing shared found d) (standing shared left d'))
    (λ found left seen. StepsNext asked (SeenToo (stored x y) left seen) (standing shared found d) cursor.Start (standing shared left d'))
    (λ found left seen was t.
    function_next asked (SeenToo (stored x y) left seen) (standing shared found d) (standing shared left d')
    (first_other (stored x y) left seen of_function (standing shared found d) (standing shared left d')
    ((λ is. is), ((λ is. is), ((λ is. is), tt))) t))
    (firsts_in shared before after (stored x y) of_function d call.result d' c.if-turned.true call.ensures.turns))

pub raise_in-raised-requires : goal.raise_in-raised-requires
raise_in-raised-requires g c =
    let call = c.turn_function-turned in
    let x = c.args.memory.now in
    let z = call.new.memory in
    let first = none_in g.M.Memory.shared (g.M.Memory.may_be x) (g.M.Memory.may_be z)
    (Stored g.M.Memory.stored g.M.Memory.storing x z) of_function c.args.self.now call.result
    call.new.self c.if-turned.false call.ensures.turns in
    let ready = still_ready (g.M.Memory.is_open x) (g.M.Memory.is_open z) g.M.Memory.shared (g.M.Memory.may_be x)
    (g.M.Memory.may_be z) (g.M.Memory.extent x) (g.M.Memory.extent z) c.args.self.now call.new.self c.requires.ready first.0
    call.ensures.size call.ensures.reading c.size-function.ensures.some (λ m may. (first.1 m may).0) in
    record { sound = ready.sound; fits = ready.fits; few = ready.few }

pub returns-then-raised-clause-turns : goal.returns-then-raised-clause-turns
returns-then-raised-clause-turns g c =
    let shared = g.M.Memory.shared in
    let asked = asks c.args.queues in
    let call = c.turn_function-turned in
    let raise = c.raise_in-raised in
    let x = c.args.memory.now in
    let z = call.new.memory in
    let y = raise.new.memory in
    let d = c.args.self.now in
    let d' = raise.new.self in
    let before = g.M.Memory.may_be x in
    let middle = g.M.Memory.may_be z in
    let after = g.M.Memory.may_be y in
    let first = none_in shared before middle (Stored g.M.Memory.stored g.M.Memory.storing x z) of_function d call.result call.new.self c.if-turned.false call.ensures.turns in
    let stored = Stored g.M.Memory.stored g.M.Memory.storing in
    let known = still_known g.M.Memory.stored g.M.Memory.storing g.met.M.Memory.none x z first.2 in
    let turn = subst (λ k. TurnsIn shared middle after (stored x y) k Event.Raise raise.result d') first.0
    (turn_known g.M.Memory.stored g.M.Memory.storing x z y shared middle after call.new.self Event.Raise raise.result d' known
    raise.ensures.turns) in
    one_in shared g.M.Memory.may_be stored asked c.args.most x d cursor.Start c.one-then-raised.result y d' c.requires.most
    c.one-then-raised.ensures c.size-event.ensures.some
    (each_before shared before middle after
    (λ found left seen. StepsNext asked (SeenToo (stored x y) left seen) (standing shared found d) cursor.Start (standing shared left d'))
    (λ m may. (first.1 m may).0)
    (each_from shared middle after
    (λ found left seen. TurnsBy (Sees (stored x y) left seen) (standing shared found d) Event.Raise (standing shared left d'))
    (λ found left seen. StepsNext asked (SeenToo (stored x y) left seen) (standing shared found d) cursor.Start (standing shared left d'))
    (λ found left seen was t.
    raise_next asked (SeenToo (stored x y) left seen) (standing shared found d) (standing shared left d') (first.1 found was).1
    (by_other (stored x y) left seen (standing shared found d) Event.Raise (standing shared left d') (λ is. is) t))
    (did_in shared middle after (stored x y) d Event.Raise raise.result d' c.if-raised.true turn)))

pub from_direct-requires : goal.from_direct-requires
from_direct-requires g c =
    let shared = g.M.Memory.shared in
    let call = c.turn_function-turned in
    let raise = c.raise_in-raised in
    let x = c.args.memory.now in
    let z = call.new.memory in
    let y = raise.new.memory in
    let d = c.args.self.now in
    let d' = raise.new.self in
    let before = g.M.Memory.may_be x in
    let middle = g.M.Memory.may_be z in
    let after = g.M.Memory.may_be y in
    let first = none_in shared before middle (Stored g.M.Memory.stored g.M.Memory.storing x z) of_function d call.result call.new.self c.if-turned.false call.ensures.turns in
    let turn = subst (λ k. TurnsIn shared middle after (Stored g.M.Memory.stored g.M.Memory.storing z y) k Event.Raise raise.result d') first.0 raise.ensures.turns in
    let second = idle_in shared middle after (Stored g.M.Memory.stored g.M.Memory.storing z y) d Event.Raise raise.result d' c.if-raised.false c.size-event.ensures.some turn in
    record {
      most = c.requires.most;
      room = raise.ensures.room 60 (omega arith) (call.ensures.room 60 (omega arith) c.requires.room);
      ready = still_ready (g.M.Memory.is_open x) (g.M.Memory.is_open y) shared before after (g.M.Memory.extent x)
          (g.M.Memory.extent y) d d' c.requires.ready second.0 (raise.ensures.size ∙ call.ensures.size)
          (raise.ensures.reading call.ensures.reading) c.size-event.ensures.some
          (λ m may. (first.1 m (second.1 m may).0).0);
      start = λ m may.
          let f = second.1 m may in
          subst (λ k. NoStart (standing shared m k)) (sym second.0)
          (record { function = (first.1 m f.0).1; waiting = f.1 });
      before = λ m may. tt;
    }

pub returns-clause-turns : goal.returns-clause-turns
returns-clause-turns g c =
    let shared = g.M.Memory.shared in
    let call = c.turn_function-turned in
    let raise = c.raise_in-raised in
    let x = c.args.memory.now in
    let z = call.new.memory in
    let y = raise.new.memory in
    let d = c.args.self.now in
    let d' = raise.new.self in
    let before = g.M.Memory.may_be x in
    let middle = g.M.Memory.may_be z in
    let after = g.M.Memory.may_be y in
    let first = none_in shared before middle (Stored g.M.Memory.stored g.M.Memory.storing x z) of_function d call.result call.new.self c.if-turned.false call.ensures.turns in
    let turn = subst (λ k. TurnsIn shared middle after (Stored g.M.Memory.stored g.M.Memory.storing z y) k Event.Raise raise.result d') first.0 raise.ensures.turns in
    let second = idle_in shared middle after (Stored g.M.Memory.stored g.M.Memory.storing z y) d Event.Raise raise.result d' c.if-raised.false c.size-event.ensures.some turn in
    let first_known = still_known g.M.Memory.stored g.M.Memory.storing g.met.M.Memory.none x z first.2 in
    let known = still_known g.M.Memory.stored g.M.Memory.storing g.met.M.Memory.none z y second.2 ∙ first_known in
    turns_before shared g.M.Memory.may_be (Stored g.M.Memory.stored g.M.Memory.storing) (asks c.args.queues) c.args.most x y d d' c.from_direct.result
    c.from_direct.new.memory c.from_direct.new.self second.0 (λ m may. (first.1 m (second.1 m may).0).0)
    (on_known g.M.Memory.stored g.M.Memory.storing x y known) c.from_direct.ensures.turns
