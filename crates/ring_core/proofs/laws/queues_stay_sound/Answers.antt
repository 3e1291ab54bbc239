use Rattle.ring_core.proofs.Sound.{sound-opening, sound-accept, sound-use, sound-break}
use Rattle.ring_core.proofs.laws.queues_stay_sound.Goals as goal

pub returns : goal.returns
returns c = record { opening = sound-opening; accepting = sound-accept; using = sound-use; breaking = sound-break }
