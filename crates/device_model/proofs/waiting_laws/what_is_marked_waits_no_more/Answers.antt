use Rattle.std.proofs.Common.{refl}
use Rattle.device_model.proofs.Waits.{marked_ends}
use Rattle.device_model.proofs.waiting_laws.what_is_marked_waits_no_more.Goals as goal

pub returns-clause-mark : goal.returns-clause-mark
returns-clause-mark c = λ w t p m jobs. refl

pub returns-clause-reset : goal.returns-clause-reset
returns-clause-reset c = λ w p jobs. refl

pub returns-clause-ends : goal.returns-clause-ends
returns-clause-ends c = marked_ends
