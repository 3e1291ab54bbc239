-- What callers see of a hand-off and of its seats.
use Rattle.std.specs.Prelude.{◌≡◌, ℕ, ◌+◌, ◌<◌, ◌≤◌, ◌==◌, ◌⊎◌, if◌then◌else◌, List, [], ◌∷◌, ◌++◌, Some, length, slice_get, ⊤}
use Rattle.std.specs.List.{sum_by, count_by, flat_map}
use Rattle.crossbeam_queue.specs.Fifo.{Held}
use Rattle.ring_core.specs.declared.log.Ticket.{Ticket}
use Rattle.unit_model.specs.Tasks.{same_ticket}
use Rattle.unit_model.specs.Jobs.{PlainJob}
use Rattle.handoff.specs.declared.rule.Account.{Account}
use Rattle.handoff.specs.declared.rule.View.{View}
use Rattle.handoff.specs.Moves.{Move, move}
use Rattle.handoff.specs.Inner.Moves.{jobs_of, jobs_by, IsBelow, account, Balances}
use Rattle.handoff.specs.Ends.{PlainEnd}
use Rattle.handoff.specs.Seats.{Hub, PlainSeat, IsSeatOf}

-- own: the seat once it put a job, and once it took one from the queue of a seat
abbrev pub putting : PlainSeat → PlainJob → PlainSeat
putting s job = record s { put = s.put ++ job ∷ [] }

abbrev pub taking : ℕ → PlainSeat → PlainJob → PlainSeat
taking from s job = record s { taken = s.taken ++ move from job ∷ [] }

-- own: seats of a hand-off, in order, from a number on; all of them
abbrev pub AreSeatsFrom : Hub → ℕ → List PlainSeat → Type 0
AreSeatsFrom h n [] = ⊤
AreSeatsFrom h n (s ∷ seats) = IsSeatOf h s × (s.number ≡ n) × AreSeatsFrom h (n + 1) seats

pub record AreAllSeats (h : Hub) (all : List PlainSeat) : Type 0 where
  pub in_order : AreSeatsFrom h 0 all
  pub count : length all ≡ h.seats

-- own: they put and took nothing yet
abbrev pub AreNew : List PlainSeat → Type 0
AreNew [] = ⊤
AreNew (s ∷ seats) = (s.put ≡ []) × (s.taken ≡ []) × AreNew seats

-- What one seat knows of a queue

-- own: what it put into the queue of a seat, which is nothing but where that is its own, and what it took from there
abbrev pub put_at : ℕ → PlainSeat → List PlainJob
put_at q s = if q == s.number then s.put else []

abbrev pub taken_at : ℕ → PlainSeat → List PlainJob
taken_at q s = jobs_by q s.taken

abbrev pub account_at : ℕ → PlainSeat → Account
account_at q s = account s.number (put_at q s) (taken_at q s)

-- own: what it knows of what a queue holds: of its puts there a beginning is gone, and the rest stand there, in order
abbrev pub BalancesAt : ℕ → PlainSeat → List PlainJob → Type 0
BalancesAt q s items = Balances (account_at q s ∷ []) items

-- own: the queue of a seat was empty at some moment
abbrev pub WasEmpty : PlainSeat → ℕ → Type 0
WasEmpty s q = Held 0 (BalancesAt q s)

-- own: whoever takes looks into its own queue first, then into those of the next seats by rising number, and so round to
-- the beginning: on the way of the seat k, the queue i comes before the queue j
abbrev pub IsBefore : ℕ → ℕ → ℕ → Type 0
IsBefore k i j = ((k ≤ i) × ((i < j) ⊎ (j < k))) ⊎ ((i < j) × (j < k))

-- own: a job was taken from one queue, and each that comes before it was empty at some moment
pub record TakesNearest (old new : PlainSeat) (job : PlainJob) : Type 0 where
  pub from : ℕ
  pub there : from < old.seats
  pub taken : new ≡ taking from old job
  pub first : (q : ℕ) → q < old.seats → IsBefore old.number q from → WasEmpty old q

-- What all seats know

-- own: what became of the jobs that the seat q put: those that are gone are a beginning of them, and were taken in that
-- order; the rest stand in its own queue, in order. Of what each seat took, what it took from there is its part
pub record HandedOver (seats : List PlainSeat) (q : ℕ) (left : List PlainJob) : Type 0 where
  pub takes : List Move
  pub put : (s : PlainSeat) → slice_get seats q ≡ Some s → s.put ≡ jobs_of takes ++ left
  pub theirs : IsBelow (length seats) takes
  pub each : (k : ℕ) (s : PlainSeat) → slice_get seats k ≡ Some s → taken_at q s ≡ jobs_by k takes

-- own: the jobs that some seats put, those that they took, and those that are left in their queues
abbrev pub all_put : List PlainSeat → List PlainJob
all_put seats = flat_map (λ s. s.put) seats

abbrev pub all_taken : List PlainSeat → List PlainJob
all_taken seats = flat_map (λ s. jobs_of s.taken) seats

abbrev pub all_left : (ℕ → List PlainJob) → List PlainSeat → List PlainJob
all_left left seats = flat_map (λ s. left s.number) seats

-- own: each job was put as often as it was taken or is left. However jobs are weighed, those that were put weigh what
-- was taken and what is left do: with 1 for one job and 0 for the others, how often it was
abbrev pub IsEven : List PlainSeat → List PlainJob → Type 0
IsEven seats items =
    (weight : PlainJob → ℕ) → sum_by weight (all_put seats) ≡ sum_by weight (all_taken seats) + sum_by weight items

-- own: how often a ticket stands among jobs
abbrev pub times : Ticket → List PlainJob → ℕ
times ticket jobs = count_by (λ j. same_ticket ticket j.chain.ticket) jobs

-- own: each ticket was put as often as it was taken or is left
abbrev pub IsEvenByTicket : List PlainSeat → List PlainJob → Type 0
IsEvenByTicket seats items =
    (ticket : Ticket) → times ticket (all_put seats) ≡ times ticket (all_taken seats) + times ticket items

-- own: with what is left in the queue of each seat
pub record AreGathered (seats : List PlainSeat) (left : ℕ → List PlainJob) : Type 0 where
  pub each : (q : ℕ) → q < length seats → HandedOver seats q (left q)
  pub even : IsEven seats (all_left left seats)
  pub by_ticket : IsEvenByTicket seats (all_left left seats)

-- What a seat has, whose ends stand in the order of the queues

-- own: what the end that a seat has of a queue knows: the account there, and of the first seat how many there are
abbrev pub view_at : ℕ → PlainSeat → View
view_at q s =
    record {
      accounts = account_at q s ∷ [];
      is_chief = s.number == 0;
      made = if s.number == 0 then s.seats else 0;
    }

pub record IsSeated (s : PlainSeat) (ends : List PlainEnd) : Type 0 where
  pub number : s.number < s.seats
  pub below : IsBelow s.seats s.taken
  pub each : (q : ℕ) (p : PlainEnd) → slice_get ends q ≡ Some p → p.knows ≡ view_at q s
