use Rattle.ring_core.proofs.RightChains.{offered_is_right, offered_slots, offered_few, offered_head}
use Rattle.ring_core.proofs.laws.chains_are_right.Goals as goal

pub returns : goal.returns
returns c = record { parts = offered_is_right; slots = offered_slots; few = offered_few; head = offered_head }
