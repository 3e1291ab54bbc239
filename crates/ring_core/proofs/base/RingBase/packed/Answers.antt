use Rattle.std.proofs.Common.{refl}
use Rattle.ring_core.specs.State.{opening}
use Rattle.ring_core.specs.declared.layout.Form.TheVariants.{Packed}
use Rattle.ring_core.proofs.Sound.{sound-opening}
use Rattle.ring_core.proofs.base.RingBase.packed.Goals as goal

pub invariant_of-result : goal.invariant_of-result
unfolding opening
invariant_of-result c =
    rw (c.new.ensures, c.by_id.ensures) (sound-opening Packed c.args.queue c.args.layout c.args.features c.args.memory c.args.ids)

pub returns : goal.returns
unfolding opening
returns c = rw (c.new.ensures, c.by_id.ensures) refl
