-- Rests on `specs/Opening.antt`; no promise rests on it.
use Rattle.std.specs.Prelude.{ℕ, ◌≡◌, List, [], length}
use Rattle.device_model.specs.Parts.{Hand}
use Rattle.device_model.specs.World.{Everywhere}
use Rattle.device_steps.specs.Kept.{KeptSeat}

-- so many seats, with nothing in hand and room for so many jobs
pub record AreSeats (count limit : ℕ) (seats : List KeptSeat) : Type 0 where
  pub many : length seats ≡ count
  pub each : Everywhere (λ (k : ℕ) (s : KeptSeat). s ≡ record { hand = Hand.Empty; jobs = []; limit = limit }) seats
