-- Rests on `specs/Kept.antt`; no promise rests on it.
use Rattle.std.specs.Prelude.{ℕ, ◌≡◌, ◌+◌, ◌*◌, List, length}
use Rattle.unit_model.specs.Unit.{PlainUnit}
use Rattle.device_model.specs.World.{Everywhere}
use Rattle.device_steps.specs.Kept.{KeptSeat}

-- each seat's list has room for all tasks and 64 more, as have the lists of the jobs that wait for pages, and the port for
-- one buffer more than the largest queue has descriptors
pub record HasLists (units : List PlainUnit) (seats : List KeptSeat) (places room : ℕ) : Type 0 where
  pub limits : Everywhere (λ k (s : KeptSeat). s.limit ≡ 64 * length units + 64) seats
  pub aside : places ≡ 64 * length units + 64
  pub port : room ≡ 1025
