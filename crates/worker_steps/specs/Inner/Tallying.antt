-- Rests on `specs/Tallying.antt`; no promise rests on it.
use Rattle.std.specs.Prelude.{⊤}
use Rattle.phases.specs.declared.hand.Hand.{Hand}
use Rattle.phases.specs.declared.hand.Hand.TheVariants as hand

-- own: no job is in the hand
abbrev pub HasNoJob : Hand → Type 0
HasNoJob hand.Empty = ⊤
HasNoJob (hand.Job held) = ⊥
HasNoJob (hand.Answered unit_index t) = ⊤
