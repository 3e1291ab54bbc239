use Rattle.std.proofs.Common.{sym, subst}
use Rattle.device_steps.specs.Inner.Cursors.{Denies}
use Rattle.device_steps.specs.Inner.Off.{AreBare}
use Rattle.device_steps.proofs.Off.{has_nearest}
use Rattle.device_steps.proofs.handed_off.HandedOff.has_job.Goals as goal

pub returns : goal.returns
returns c =
    subst (λ b. Denies (AreBare c.args.self.now.lists) b) (sym c.is_some.ensures)
    (has_nearest 0 c.args.self.now.lists c.nearest.result c.nearest.ensures)
