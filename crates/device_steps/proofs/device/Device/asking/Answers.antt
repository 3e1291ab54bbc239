use Rattle.std.proofs.Common.{◌≡◌, ◌<◌, ◌≤◌, ◌+◌, ◌∙◌, length, Some, sym, ap, subst, arith}
use Rattle.std.specs.Prelude.{slice_get}
use Rattle.std.specs.Option.{IfSome}
use Rattle.device_model.specs.World.{PlainQueue}
use Rattle.ring_core.specs.Writes.{Write}
use Rattle.device_steps.specs.Apart.{PlainDevice, FitsIn}
use Rattle.device_steps.proofs.Sequences.{read_there}
use Rattle.device_steps.proofs.device.Device.asking.Goals as goal

pub returns-clause-inside : goal.returns-clause-inside
returns-clause-inside c =
    let items = c.self.inside.bays.items in
    let lt : c.args.number < length items = omega (arith, c.if-at-len.false, c.len.ensures) in
    let at : slice_get items c.args.number ≡ Some c.index.result.now =
    read_there items c.args.number c.index.result.now lt c.index.ensures in
    λ size fits.
    let own = subst (λ (z : PlainDevice). FitsIn size z) (sym c.self.view_is) fits in
    subst (λ n. IfSome c.asking.result (λ (a : Write). a.addr + length a.bytes ≤ n))
    (ap (λ (q : PlainQueue). q.ring.memory) c.behind-self.view_is ∙ own c.args.number c.index.result.now at)
    c.asking.ensures.inside
