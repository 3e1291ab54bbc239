-- Rests on `specs/Live.antt`; no promise rests on it.
use Rattle.std.specs.Prelude.{ℕ, List}
use Rattle.device_model.specs.World.{PlainWorld}
use Rattle.device_model.specs.Events.{Event}
use Rattle.device_model.specs.Live.{TurnsAt}

-- One event on a memory of which this is known: what may stand there as it begins, what its writes may leave, and what may
-- stand there behind it, by which a notice is decided. Whatever stands there behind it, the event did a turn.
abbrev pub TurnsLive : (Before Left After : List ℕ → Type 0) → PlainWorld → Event → PlainWorld → Type 0
TurnsLive Before Left After w e w' =
    (seen : List ℕ) → After seen
    → (found : List ℕ) × (left : List ℕ) × Before found × Left left × TurnsAt found left seen w e w'
