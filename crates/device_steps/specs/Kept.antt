-- What the device keeps beside its plain value.
use Rattle.std.specs.Prelude.{ℕ, List}
use Rattle.unit_model.specs.Jobs.{PlainJob}
use Rattle.device_model.specs.Parts.{Hand}
use Rattle.device_model.specs.World.{Seat}

-- a seat, and how many jobs there is room for
pub record KeptSeat : Type 0 where
  pub hand : Hand
  pub jobs : List PlainJob
  pub limit : ℕ

abbrev pub seat_of : KeptSeat → Seat
seat_of s = record { hand = s.hand; out = s.jobs }
