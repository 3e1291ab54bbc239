use Rattle.device_model.proofs.Runs.{settles_run, each_changes, settles_to_rest}
use Rattle.device_model.proofs.settling_laws.a_settling_is_a_run.Goals as goal

pub returns-clause-runs : goal.returns-clause-runs
returns-clause-runs c = settles_run

pub returns-clause-changes : goal.returns-clause-changes
returns-clause-changes c = each_changes

pub returns-clause-rest : goal.returns-clause-rest
returns-clause-rest c = settles_to_rest
