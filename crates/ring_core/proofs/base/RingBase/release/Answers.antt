use Rattle.std.proofs.Common.{arith}
use Rattle.ring_core.specs.Base.{state_of}
use Rattle.ring_core.specs.State.{Owns}
use Rattle.ring_core.proofs.Sound.{sound-use}
use Rattle.ring_core.proofs.base.RingBase.release.Goals as goal

pub overflow_add-self : goal.overflow_add-self
overflow_add-self c = omega (arith, c.self.invariant.used_bounded, c.record_use.ensures.bounded)

pub invariant_of-self : goal.invariant_of-self
invariant_of-self c =
    let owns : Owns (state_of c.self.inside) c.args.chain = rw c.self.view_is c.requires in
    rw (c.record_use.ensures.state, c.remove.ensures, c.ticket-ticket.ensures, c.id.ensures, c.slots.ensures, c.slots-self-inside.ensures)
    (sound-use (state_of c.self.inside) c.args.chain c.self.invariant owns)
