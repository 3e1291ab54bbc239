use Rattle.std.proofs.Common.{inl, inr, arith}
use Rattle.device_steps.specs.Apart.{Stored}
use Rattle.device_steps.specs.Settling.{asks}
use Rattle.world.proofs.Whole.{each_asked, looks_nothing}
use Rattle.world.proofs.live_world.LiveWorld.settle.Goals as goal

pub returns-then-served-clause-serves : goal.returns-then-served-clause-serves
returns-then-served-clause-serves g c =
    let s = c.in-Ok.ensures.serves in
    let left = s.left c.if-served.true in
    record {
      asked = asks 4294967295;
      each = each_asked c.args.self.now.device c.is_steady.ensures.few;
      behind = s.behind;
      count = c.in-Ok.served.steps;
      serves = s.serves;
      why = inr (omega (arith, left.0), left.1);
    }

pub returns-then-served-clause-promise : goal.returns-then-served-clause-promise
returns-then-served-clause-promise g c = (
  asks 4294967295,
  each_asked c.args.self.now.device c.is_steady.ensures.few,
  (c.in-Ok.served.steps, c.in-Ok.ensures.promise),
)

pub returns-else-served-clause-serves : goal.returns-else-served-clause-serves
returns-else-served-clause-serves g c =
    let s = c.in-Ok.ensures.serves in
    record {
      asked = asks 4294967295;
      each = each_asked c.args.self.now.device c.is_steady.ensures.few;
      behind = s.behind;
      serves = s.serves;
      none = looks_nothing g.M.Memory.shared g.M.Memory.begins g.M.Memory.may_be
          (Stored g.M.Memory.stored g.M.Memory.storing) s.behind c.serve-done.new.self
          c.is_steady-2.ensures.few (s.none c.if-served.false);
    }

pub returns-else-served-clause-promise : goal.returns-else-served-clause-promise
returns-else-served-clause-promise g c =
    (asks 4294967295, each_asked c.args.self.now.device c.is_steady.ensures.few, c.in-Ok.ensures.promise)

pub returns-in-Err-clause-serves : goal.returns-in-Err-clause-serves
returns-in-Err-clause-serves g c =
    let s = c.in-Err.ensures.serves in
    record {
      asked = asks 4294967295;
      each = each_asked c.args.self.now.device c.is_steady.ensures.few;
      behind = s.behind;
      count = s.count;
      serves = s.serves;
      why = inl s.wants;
    }

pub returns-in-Err-clause-promise : goal.returns-in-Err-clause-promise
returns-in-Err-clause-promise g c =
    (asks 4294967295, each_asked c.args.self.now.device c.is_steady.ensures.few, c.in-Err.ensures.promise)

pub returns-then-served-clause-stores : goal.returns-then-served-clause-stores
returns-then-served-clause-stores g c = (
  asks 4294967295,
  each_asked c.args.self.now.device c.is_steady.ensures.few,
  (c.in-Ok.served.steps, c.in-Ok.ensures.stores),
)

pub returns-else-served-clause-stores : goal.returns-else-served-clause-stores
returns-else-served-clause-stores g c =
    (asks 4294967295, each_asked c.args.self.now.device c.is_steady.ensures.few, c.in-Ok.ensures.stores)

pub returns-in-Err-clause-stores : goal.returns-in-Err-clause-stores
returns-in-Err-clause-stores g c =
    (asks 4294967295, each_asked c.args.self.now.device c.is_steady.ensures.few, c.in-Err.ensures.stores)
