use Rattle.device_model.proofs.Live.{live_run, live_changes, live_short}
use Rattle.device_model.proofs.live_laws.a_live_settling_is_short.Goals as goal

pub returns-clause-runs : goal.returns-clause-runs
returns-clause-runs c = live_run

pub returns-clause-changes : goal.returns-clause-changes
returns-clause-changes c = live_changes

pub returns-clause-short : goal.returns-clause-short
returns-clause-short c = live_short
