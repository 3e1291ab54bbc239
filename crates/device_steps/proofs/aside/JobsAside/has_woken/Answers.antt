use Rattle.std.proofs.Common.{◌≡◌, [], length, sym, subst, ap, ◌∙◌, arith}
use Rattle.device_steps.specs.Aside.{KeptAside}
use Rattle.device_steps.proofs.Making.{nothing_in}
use Rattle.device_steps.proofs.Resuming.{has_some}
use Rattle.device_steps.proofs.aside.JobsAside.has_woken.Goals as goal

pub returns-then-len-gt0 : goal.returns-then-len-gt0
returns-then-len-gt0 c = λ none.
    has_some c.self.inside.woken.jobs (omega (arith, c.len.ensures, c.if-len-gt0.true))
    (ap (λ (k : KeptAside). k.woken) c.self.view_is ∙ none)

pub returns : goal.returns
returns c =
    ap (λ (k : KeptAside). k.woken) (sym c.self.view_is)
    ∙ nothing_in c.self.inside.woken.jobs (omega (arith, c.len.ensures, c.if-len-gt0.false))
