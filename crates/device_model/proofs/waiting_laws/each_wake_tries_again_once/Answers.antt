use Rattle.std.proofs.Common.{refl}
use Rattle.device_model.proofs.Waits.{aside_moves, woken_moves, quiet_woken}
use Rattle.device_model.proofs.waiting_laws.each_wake_tries_again_once.Goals as goal

pub returns-clause-waits : goal.returns-clause-waits
returns-clause-waits c = aside_moves

pub returns-clause-again : goal.returns-clause-again
returns-clause-again c = woken_moves

pub returns-clause-worker : goal.returns-clause-worker
returns-clause-worker c = λ w k x h. h.worker

pub returns-clause-wake : goal.returns-clause-wake
returns-clause-wake c = λ w. refl

pub returns-clause-quiet : goal.returns-clause-quiet
returns-clause-quiet c = quiet_woken
