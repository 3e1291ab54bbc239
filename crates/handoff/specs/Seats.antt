-- What callers see of a hand-off and of its seats.
use Rattle.std.specs.Prelude.{◌≡◌, ℕ, List, [], ◌∷◌, Option, None, Some, map, length, slice_get}
use Rattle.atomic_table.specs.Seated.{TableId}
use Rattle.unit_model.specs.Jobs.{PlainJob}
use Rattle.handoff.specs.declared.rule.Account.{Account}
use Rattle.handoff.specs.declared.seat.Taken.{Taken}
use Rattle.handoff.specs.Moves.{Move, move}
use Rattle.handoff.specs.Ends.{PlainEnd}

-- own: which queues, one for each seat, how many jobs each holds at most, and how many seats there are
pub record Hub : Type 0 where
  pub queues : List TableId
  pub capacity : ℕ
  pub seats : ℕ

-- own: a seat: at which queues, which one of how many, the jobs that it put into its own queue, and those that it took,
-- each with the seat whose queue it stood in, in order
pub record PlainSeat : Type 0 where
  pub queues : List TableId
  pub number : ℕ
  pub seats : ℕ
  pub put : List PlainJob
  pub taken : List Move

-- own: the seat is one of this hand-off
pub record IsSeatOf (h : Hub) (s : PlainSeat) : Type 0 where
  pub queues : s.queues ≡ h.queues
  pub seats : s.seats ≡ h.seats

-- own: it is the same seat, whatever it put and took
pub record IsSameSeat (old new : PlainSeat) : Type 0 where
  pub queues : new.queues ≡ old.queues
  pub number : new.number ≡ old.number
  pub seats : new.seats ≡ old.seats

-- What a seat has, whose ends stand in the order of the queues

abbrev pub move_of : Taken → Move
move_of t = move t.from t.job.value

abbrev pub first_put : List Account → List PlainJob
first_put [] = []
first_put (a ∷ accounts) = a.put

abbrev pub put_there : Option PlainEnd → List PlainJob
put_there None = []
put_there (Some p) = first_put p.knows.accounts

abbrev pub seat_of : ℕ → List PlainEnd → List Taken → PlainSeat
seat_of number ends taken =
    record {
      queues = map (λ p. p.queue) ends;
      number = number;
      seats = length ends;
      put = put_there (slice_get ends number);
      taken = map move_of taken;
    }
