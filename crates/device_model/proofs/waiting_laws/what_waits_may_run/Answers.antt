use Rattle.device_model.proofs.Aside.{run_aside}
use Rattle.device_model.proofs.Waits.{waits_once}
use Rattle.device_model.proofs.waiting_laws.what_waits_may_run.Goals as goal

pub returns-clause-aside : goal.returns-clause-aside
returns-clause-aside c = λ old trace w r. run_aside old trace w r.opens r.runs

pub returns-clause-once : goal.returns-clause-once
returns-clause-once c = waits_once
