-- What all seats put into one queue and took from it, and what each of them knows of it.
-- All puts stand in one order: those that are gone, then those that are left, which the queue holds. What is gone was
-- taken, in that order.
use Rattle.std.specs.Prelude.{◌≡◌, ℕ, ◌<◌, ◌==◌, ◌++◌, Bool, List, [], ◌∷◌, map, length, ⊤}
use Rattle.std.specs.List.{filter}
use Rattle.unit_model.specs.Jobs.{PlainJob}
use Rattle.handoff.specs.Moves.{Move}
use Rattle.handoff.specs.declared.rule.Account.{Account}

-- own: the jobs of moves, in order; those of one seat's moves alone
abbrev pub jobs_of : List Move → List PlainJob
jobs_of moves = map (λ m. m.job) moves

abbrev pub is_by : ℕ → Move → Bool
is_by seat m = m.seat == seat

abbrev pub jobs_by : ℕ → List Move → List PlainJob
jobs_by seat moves = jobs_of (filter (is_by seat) moves)

-- own: the puts whose jobs are gone, the puts whose jobs are left, and the takes, each in order
pub record Moves : Type 0 where
  pub gone : List Move
  pub left : List Move
  pub takes : List Move

-- own: the very jobs that are gone were taken, in the order in which they were put; the queue holds those that are left
pub record IsInOrder (all : Moves) (items : List PlainJob) : Type 0 where
  pub went : jobs_of all.takes ≡ jobs_of all.gone
  pub stands : jobs_of all.left ≡ items

-- own: each of these moves is by a seat below a number
abbrev pub IsBelow : ℕ → List Move → Type 0
IsBelow n [] = ⊤
IsBelow n (m ∷ moves) = (m.seat < n) × IsBelow n moves

pub record AreBelow (n : ℕ) (all : Moves) : Type 0 where
  pub gone : IsBelow n all.gone
  pub left : IsBelow n all.left
  pub takes : IsBelow n all.takes

abbrev pub account : ℕ → List PlainJob → List PlainJob → Account
account s p t = record { seat = s; put = p; taken = t }

-- own: of the jobs that a seat put those that are gone are a beginning, and the rest are left, in order; what it took
-- is its part of the takes
pub record Fits (all : Moves) (a : Account) : Type 0 where
  pub put : a.put ≡ jobs_by a.seat all.gone ++ jobs_by a.seat all.left
  pub taken : a.taken ≡ jobs_by a.seat all.takes

abbrev pub AllFit : Moves → List Account → Type 0
AllFit all [] = ⊤
AllFit all (a ∷ accounts) = Fits all a × AllFit all accounts

-- own: what some seats put and took stands in such an order, and the queue holds what is left of it
pub record Balances (accounts : List Account) (items : List PlainJob) : Type 0 where
  pub all : Moves
  pub order : IsInOrder all items
  pub each : AllFit all accounts

-- own: the same where no seat is missing, so that each move is one of theirs
pub record AreSettled (accounts : List Account) (items : List PlainJob) : Type 0 where
  pub all : Moves
  pub order : IsInOrder all items
  pub theirs : AreBelow (length accounts) all
  pub each : AllFit all accounts
