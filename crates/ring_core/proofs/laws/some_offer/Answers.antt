use Rattle.ring_core.proofs.Exists.{offers_some}
use Rattle.ring_core.proofs.laws.some_offer.Goals as goal

pub returns : goal.returns
returns c = offers_some
