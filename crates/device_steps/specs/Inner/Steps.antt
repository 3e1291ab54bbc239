-- A turn that may be refused memory; no promise rests on it.
use Rattle.std.specs.Prelude.{◌≡◌, Bool, Result, Ok, Err}
use Rattle.foundation.specs.declared.NoMemory.{NoMemory}
use Rattle.device_model.specs.World.{PlainWorld}
use Rattle.device_model.specs.Events.{Event}
use Rattle.device_model.specs.Happens.{MayWant}
use Rattle.device_model.specs.Turns.{Turns}

-- a turn, or memory was refused and nothing changed
abbrev pub TurnsOrWants : PlainWorld → Event → Result Bool NoMemory → PlainWorld → Type 0
TurnsOrWants w e (Ok changed) w' = Turns w e changed w'
TurnsOrWants w e (Err x) w' = MayWant e w × (w' ≡ w)
