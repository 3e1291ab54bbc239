use Rattle.std.proofs.Common.{inr, refl, sym, ap, ◌∙◌, ◌<◌, is_some, arith}
use Rattle.std.proofs.lemmas.Option.{slice_get_read}
use Rattle.device_model.specs.World.{PlainQueue}
use Rattle.device_steps.proofs.Choosing.{option_none}
use Rattle.device_steps.proofs.Woken.{arrived_there}
use Rattle.device_steps.proofs.device.Device.after_fetch.Goals as goal

pub returns-then-is_some : goal.returns-then-is_some
returns-then-is_some c shared m =
    let d = c.self.inside in
    let within : c.args.number < d.bays.len = omega (arith, c.len.ensures, c.if-at-len.true) in
    let at = slice_get_read d.bays.items d.bays.len c.args.number c.index.result.now d.bays.ok.0 within
    c.index.ensures in
    let none = option_none d.function c.if-is_none.ensures in
    let some = ap is_some (sym c.unit.ensures) ∙ sym c.if-is_some.ensures in
    let x = arrived_there _ some in
    let slot = ap (λ (q : PlainQueue). q.slot) (sym c.behind-self.view_is) ∙ x.1 in
    rw (← c.self.view_is) (inr (refl, none, (x.0, (c.index.result.now, at, slot))))
