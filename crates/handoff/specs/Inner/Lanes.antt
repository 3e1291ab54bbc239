-- The queues of a hand-off, and the ends that one seat has of all of them, in order.
use Rattle.std.specs.Prelude.{◌≡◌, ℕ, ◌<◌, ◌≤◌, true, List, [], ◌∷◌, Some, map, length, slice_get}
use Rattle.unit_model.specs.Jobs.{PlainJob}
use Rattle.handoff.specs.declared.rule.Account.{Account}
use Rattle.handoff.specs.declared.rule.View.{View}
use Rattle.handoff.specs.Inner.Moves.{account}
use Rattle.handoff.specs.Ends.{PlainLane, PlainEnd}
use Rattle.handoff.specs.Seats.{Hub, PlainSeat}
use Rattle.handoff.specs.Inner.Seats.{taking, WasEmpty}

-- own: each holds so many jobs at most
abbrev pub HaveCapacity : ℕ → List PlainLane → Type 0
HaveCapacity n lanes = (q : ℕ) (l : PlainLane) → slice_get lanes q ≡ Some l → l.capacity ≡ n

-- own: an end of each queue, which knows this
abbrev pub end_of : View → PlainLane → PlainEnd
end_of v l = record { queue = l.queue; knows = v }

abbrev pub at_each : View → List PlainLane → List PlainEnd
at_each v lanes = map (end_of v) lanes

-- own: what the chief of a queue knows that has these accounts and made so many ends; of the first seat, with nothing
abbrev pub leads : List Account → ℕ → View
leads accounts n = record { accounts = accounts; is_chief = true; made = n }

abbrev pub lead : ℕ → View
lead n = leads (account 0 [] [] ∷ []) n

-- own: there is one end of each queue, in order
abbrev pub AreAt : Hub → List PlainEnd → Type 0
AreAt h ends = map (λ (p : PlainEnd). p.queue) ends ≡ h.queues

-- own: each is the chief of its queue; and has all accounts there
abbrev pub AreChiefs : List PlainEnd → Type 0
AreChiefs ends = (q : ℕ) (p : PlainEnd) → slice_get ends q ≡ Some p → p.knows.is_chief ≡ true

abbrev pub KnowAll : List PlainEnd → Type 0
KnowAll ends = (q : ℕ) (p : PlainEnd) → slice_get ends q ≡ Some p → p.knows.made ≡ length p.knows.accounts

-- own: a job was taken from a queue of these numbers, and each of them before it was empty at some moment
pub record TakesBetween (low high : ℕ) (old new : PlainSeat) (job : PlainJob) : Type 0 where
  pub from : ℕ
  pub above : low ≤ from
  pub below : from < high
  pub taken : new ≡ taking from old job
  pub first : (q : ℕ) → low ≤ q → q < from → WasEmpty old q
