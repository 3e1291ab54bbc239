-- Threads, and the seats that they bring back.
use Rattle.std.specs.Prelude.{◌≡◌, ℕ, ◌+◌}
use Rattle.handoff.specs.Seats.{Hub, PlainSeat, IsSeatOf}

-- own: a thread that brings back the seat of this number of this hand-off
pub record Hand : Type 0 where
  pub hub : Hub
  pub number : ℕ

-- own: the threads that bring back all seats of a hand-off but the last: which hand-off, and how many threads
pub record Band : Type 0 where
  pub hub : Hub
  pub threads : ℕ

-- own: the seat is the last of this hand-off
pub record IsLastSeat (h : Hub) (s : PlainSeat) : Type 0 where
  pub seat : IsSeatOf h s
  pub last : s.number + 1 ≡ h.seats
