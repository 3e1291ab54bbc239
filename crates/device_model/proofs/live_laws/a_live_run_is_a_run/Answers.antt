use Rattle.device_model.proofs.Live.{live_runs}
use Rattle.device_model.proofs.live_laws.a_live_run_is_a_run.Goals as goal

pub returns : goal.returns
returns c = live_runs
