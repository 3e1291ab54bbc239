use Rattle.device_model.proofs.Live.{turn_run, own_turn}
use Rattle.device_model.proofs.live_laws.a_live_turn_is_a_run.Goals as goal

pub returns-clause-run : goal.returns-clause-run
returns-clause-run c = turn_run

pub returns-clause-own : goal.returns-clause-own
returns-clause-own c = own_turn
