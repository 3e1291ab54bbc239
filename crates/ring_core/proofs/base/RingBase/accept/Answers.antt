use Rattle.std.proofs.Common.{◌≡◌, ◌<◌, length, get_or, None, Some, arith}
use Rattle.ring_core.specs.Base.{state_of}
use Rattle.ring_core.proofs.Sound.{sound-accept, put_back}
use Rattle.ring_core.proofs.base.RingBase.accept.Goals as goal

-- the table once the chain was put and taken back
as_before : (c : goal.After-drop-draft-inside-in-Err) → c.remove.new.self ≡ c.self.inside.outstanding
as_before c =
    let free : get_or c.self.inside.outstanding c.args.id None ≡ None = rw (← c.self.view_is) at c.requires.free in
    let lt : c.args.id < length c.self.inside.outstanding = rw (← c.self.view_is) at c.requires.in_range in
    rw (c.remove.ensures, c.in_ok-put.ensures.ok) (put_back c.self.inside.outstanding c.args.id (Some _) lt free)

pub invariant_of-self-in-Err : goal.invariant_of-self-in-Err
invariant_of-self-in-Err c = rw (as_before c, c.in-Err.ensures.err) c.self.invariant

pub returns-in-Err-clause-err : goal.returns-in-Err-clause-err
returns-in-Err-clause-err c = rw (as_before c, c.in-Err.ensures.err) c.self.view_is

pub invariant_of-self-2 : goal.invariant_of-self-2
invariant_of-self-2 c =
    rw (c.in_default.ensures.ok, c.in_ok-put.ensures.ok, c.accepted-number.ensures)
    (sound-accept (state_of c.self.inside) c.args.id c.args.slots c.self.invariant (rw (← c.self.view_is) at c.requires.in_range) (rw (← c.self.view_is) at c.requires.free) (omega arith))
