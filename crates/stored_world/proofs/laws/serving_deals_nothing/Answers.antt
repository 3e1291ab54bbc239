use Rattle.stored_world.proofs.Keeping.{transition_keeps, serving_keeps}
use Rattle.stored_world.proofs.laws.serving_deals_nothing.Goals as goal

pub returns-clause-step : goal.returns-clause-step
returns-clause-step c = transition_keeps

pub returns-clause-serving : goal.returns-clause-serving
returns-clause-serving c = serving_keeps
