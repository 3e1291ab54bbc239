use Rattle.ring_core.proofs.GoingOn.{same_position, same_offers}
use Rattle.ring_core.proofs.laws.going_on.a_queue_goes_on_at_its_position.Goals as goal

pub returns-clause-position : goal.returns-clause-position
returns-clause-position c = same_position

pub returns-clause-offers : goal.returns-clause-offers
returns-clause-offers c = same_offers
