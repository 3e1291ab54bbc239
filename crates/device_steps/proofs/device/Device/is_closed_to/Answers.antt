use Rattle.std.proofs.Common.{is_some, ap, ◌∙◌, arith}
use Rattle.std.proofs.lemmas.Bool.Decides.{nat_tests}
use Rattle.device_steps.specs.Apart.{PlainDevice, standing}
use Rattle.device_steps.proofs.Looks.{open_other, closed_so}
use Rattle.device_steps.proofs.device.Device.is_closed_to.Goals as goal

pub returns-then-number-ne0 : goal.returns-then-number-ne0
returns-then-number-ne0 c shared m =
    open_other (standing shared m c.args.self.now) c.args.number (λ e. grind (arith, nat_tests, e, c.if-number-ne0.true))

pub returns : goal.returns
returns c shared m =
    closed_so (standing shared m c.args.self.now) c.args.number c.is_some.result (grind (arith, nat_tests, c.if-number-ne0.false))
    (c.is_some.ensures ∙ ap (λ (z : PlainDevice). is_some z.function) c.self.view_is)
