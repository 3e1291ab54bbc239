use Rattle.device_model.proofs.Working.{run_works, all_work}
use Rattle.device_model.proofs.laws.tasks_are_at_work.Goals as goal

pub returns : goal.returns
returns c = λ old trace w r. all_work w (run_works old trace w r.opens r.runs).3
