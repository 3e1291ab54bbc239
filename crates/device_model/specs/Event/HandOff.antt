-- A seat puts its first job into its list of the hand-off, or takes the first of another list.
use Rattle.std.specs.Prelude.{ℕ, ◌≡◌, ◌<◌, ◌≤◌, List, [], ◌∷◌, length, drop}
use Rattle.unit_model.specs.Jobs.{PlainJob}
use Rattle.device_model.specs.Parts.{Hand}
use Rattle.device_model.specs.World.{PlainWorld, IsBefore, change}
use Rattle.device_model.specs.Found.{SeatIs, OffIs}
use Rattle.device_model.specs.Changing.{with_hand, without_first, with_job}

pub record Puts (w : PlainWorld) (k : ℕ) (x : PlainJob) : Type 0 where
  pub rest : List PlainJob
  pub seat : SeatIs w k Hand.Empty (x ∷ rest)
  pub off : List PlainJob
  pub there : OffIs w k off
  pub room : length off < w.limit

-- the job is in the seat's list of the hand-off
abbrev pub after_put : ℕ → PlainJob → PlainWorld → PlainWorld
after_put k x w =
    record w {
      seats = change (without_first Hand.Empty) k w.seats;
      handed_off = change (with_job x) k w.handed_off;
    }

pub record KeepsJob (w : PlainWorld) (k : ℕ) (x : PlainJob) : Type 0 where
  pub rest : List PlainJob
  pub seat : SeatIs w k Hand.Empty (x ∷ rest)
  pub off : List PlainJob
  pub there : OffIs w k off
  pub full : w.limit ≤ length off

-- the list was full: the job is in the seat's hand
abbrev pub after_keep : ℕ → PlainJob → PlainWorld → PlainWorld
after_keep k x w = record w { seats = change (without_first (Hand.Taken x)) k w.seats }

pub record MayPut (w : PlainWorld) (k : ℕ) : Type 0 where
  pub job : PlainJob
  pub rest : List PlainJob
  pub seat : SeatIs w k Hand.Empty (job ∷ rest)

-- the first job of a list, where each that comes before it is empty
pub record TakesJob (w : PlainWorld) (k from : ℕ) (x : PlainJob) : Type 0 where
  pub worker : k < w.workers
  pub seat : SeatIs w k Hand.Empty []
  pub rest : List PlainJob
  pub handed_off : OffIs w from (x ∷ rest)
  pub first : (i : ℕ) (jobs : List PlainJob) → IsBefore k i from → OffIs w i jobs → jobs ≡ []

-- the job is in the hand of the seat that took it
abbrev pub after_take : ℕ → ℕ → PlainJob → PlainWorld → PlainWorld
after_take k from x w =
    record w {
      seats = change (with_hand (Hand.Taken x)) k w.seats;
      handed_off = change (drop 1) from w.handed_off;
    }

-- some list of the hand-off isn't empty
pub record MayTake (w : PlainWorld) (k : ℕ) : Type 0 where
  pub worker : k < w.workers
  pub seat : SeatIs w k Hand.Empty []
  pub from : ℕ
  pub job : PlainJob
  pub rest : List PlainJob
  pub handed_off : OffIs w from (job ∷ rest)
