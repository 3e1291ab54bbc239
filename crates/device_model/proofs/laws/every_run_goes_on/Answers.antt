use Rattle.std.proofs.Common.{refl}
use Rattle.device_model.proofs.Running.{runs_on}
use Rattle.device_model.proofs.laws.every_run_goes_on.Goals as goal

pub returns-clause-opening : goal.returns-clause-opening
returns-clause-opening c = λ w o. record { opens = o; runs = refl }

pub returns-clause-run : goal.returns-clause-run
returns-clause-run c = λ old past more w after h r.
    record { opens = h.opens; runs = runs_on old w after past more h.runs r }
