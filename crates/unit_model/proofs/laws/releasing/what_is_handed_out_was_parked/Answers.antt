use Rattle.unit_model.proofs.Releasing.{released_parked, none_released}
use Rattle.unit_model.proofs.laws.releasing.what_is_handed_out_was_parked.Goals as goal

pub returns-clause-parked : goal.returns-clause-parked
returns-clause-parked c = released_parked

pub returns-clause-alive : goal.returns-clause-alive
returns-clause-alive c = none_released
