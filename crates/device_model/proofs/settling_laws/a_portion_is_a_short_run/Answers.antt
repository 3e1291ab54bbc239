use Rattle.device_model.proofs.Bounds.{settles_of_short}
use Rattle.device_model.proofs.Runs.{settles_of_run, each_changes_of, settles_of_to_rest}
use Rattle.device_model.proofs.settling_laws.a_portion_is_a_short_run.Goals as goal

pub returns-clause-runs : goal.returns-clause-runs
returns-clause-runs c = settles_of_run

pub returns-clause-changes : goal.returns-clause-changes
returns-clause-changes c = each_changes_of

pub returns-clause-short : goal.returns-clause-short
returns-clause-short c = settles_of_short

pub returns-clause-rest : goal.returns-clause-rest
returns-clause-rest c = settles_of_to_rest
