-- The guest writes memory.
use Rattle.std.specs.Prelude.{[], ◌∷◌}
use Rattle.ring_core.specs.Writes.{all_written, Write}
use Rattle.device_model.specs.World.{PlainWorld}

-- memory has these bytes there
abbrev pub after_poke : Write → PlainWorld → PlainWorld
after_poke x w = record w { memory = all_written w.memory (x ∷ []) }
