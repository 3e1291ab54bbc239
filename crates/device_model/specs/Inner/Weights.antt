-- Rests on `specs/Weights.antt`; no promise rests on it.
use Rattle.std.specs.Prelude.{ℕ, ◌≡◌, ◌≤◌, ◌+◌, List}
use Rattle.std.specs.List.{sum_by}
use Rattle.ring_core.specs.declared.log.Ticket.{Ticket}
use Rattle.unit_model.specs.Weights.{alive_count}
use Rattle.unit_model.specs.Unit.{PlainUnit}
use Rattle.device_model.specs.World.{PlainWorld}
use Rattle.device_model.specs.Transitions.{Transition}
use Rattle.device_model.specs.Places.{accepted_count, used_count, only}
use Rattle.device_model.specs.Weights.{Weights, held, fetches, uses, directs, answers, entered_count, was_accepted, nothing}

-- what comes to stand somewhere by a transition; what a unit hands out counts as it did there
abbrev pub takes : Weights → Transition → ℕ
takes f (Transition.Arrive g x) = f.arrived g.chain.ticket
takes f (Transition.Refuse g a) = f.direct g.chain.ticket
takes f (Transition.Open g function) = f.opened g.chain.ticket
takes f (Transition.Hold g) = f.port g.chain.ticket
takes f (Transition.Run x) = f.kept x.chain.ticket
takes f (Transition.Park x) = f.kept x.chain.ticket
takes f (Transition.EnterFull x) = f.direct x.chain.ticket
takes f (Transition.EnterBusy x) = f.direct x.chain.ticket
takes f (Transition.EnterStale x) = f.direct x.chain.ticket
takes f (Transition.Put k x) = f.off x.chain.ticket
takes f (Transition.Keep k x) = f.taken x.chain.ticket
takes f (Transition.Take k from x) = f.taken x.chain.ticket
takes f (Transition.Commit k x r) = f.done x.chain.ticket
takes f (Transition.CommitBusy k x) = f.done x.chain.ticket
takes f (Transition.CommitAborted k x why) = f.done x.chain.ticket
takes f (Transition.CommitUnknown k x) = f.done x.chain.ticket
takes f (Transition.Defer k x) = f.aside x.chain.ticket
takes f (Transition.Withhold k x r) = f.aside x.chain.ticket
takes f (Transition.Conclude k x r) = f.done x.chain.ticket
takes f (Transition.Resume k x) = f.taken x.chain.ticket
takes f (Transition.Answer k x o xs) = f.answered x.chain.ticket
takes f d = 0

-- and what goes from where it stood
abbrev pub gives : Weights → Transition → ℕ
gives f (Transition.Run x) = f.arrived x.chain.ticket
gives f (Transition.Park x) = f.arrived x.chain.ticket
gives f (Transition.EnterFull x) = f.arrived x.chain.ticket
gives f (Transition.EnterBusy x) = f.arrived x.chain.ticket
gives f (Transition.EnterStale x) = f.arrived x.chain.ticket
gives f (Transition.Direct c o xs) = f.direct c.ticket
gives f (Transition.Put k x) = f.kept x.chain.ticket
gives f (Transition.Keep k x) = f.kept x.chain.ticket
gives f (Transition.Take k from x) = f.off x.chain.ticket
gives f (Transition.Commit k x r) = f.taken x.chain.ticket
gives f (Transition.CommitBusy k x) = f.taken x.chain.ticket
gives f (Transition.CommitAborted k x why) = f.taken x.chain.ticket
gives f (Transition.CommitUnknown k x) = f.taken x.chain.ticket
gives f (Transition.Defer k x) = f.taken x.chain.ticket
gives f (Transition.Withhold k x r) = f.taken x.chain.ticket
gives f (Transition.Conclude k x r) = f.taken x.chain.ticket
gives f (Transition.Resume k x) = f.aside x.chain.ticket
gives f (Transition.Answer k x o xs) = f.done x.chain.ticket
gives f (Transition.Leave k unit_index t jobs) = f.answered t
gives f (Transition.Respond c r xs) = f.opened c.ticket
gives f (Transition.Give e c xs) = f.port c.ticket
gives f d = 0

-- Transitions counted, each by what p says of the ticket of its chain

-- its task enters a unit
abbrev pub enters : (Ticket → ℕ) → Transition → ℕ
enters p (Transition.Run x) = p x.chain.ticket
enters p (Transition.Park x) = p x.chain.ticket
enters p d = 0

-- how its task ended is known
abbrev pub ends : (Ticket → ℕ) → Transition → ℕ
ends p (Transition.Commit k x r) = p x.chain.ticket
ends p (Transition.CommitBusy k x) = p x.chain.ticket
ends p (Transition.CommitAborted k x why) = p x.chain.ticket
ends p (Transition.CommitUnknown k x) = p x.chain.ticket
ends p (Transition.Conclude k x r) = p x.chain.ticket
ends p d = 0

-- its task leaves its unit
abbrev pub leaves : (Ticket → ℕ) → Transition → ℕ
leaves p (Transition.Leave k unit_index t jobs) = p t
leaves p d = 0

-- Histories counted

-- the tasks that are alive
abbrev pub living_count : (Ticket → ℕ) → PlainUnit → ℕ
living_count p u = alive_count p u.steps

-- what came to stand somewhere stands there or went on, for any weights; the logs have what the transitions accepted
-- and used, the histories have what entered, and less what left it is alive; and a ticket is fetched once where it was
-- accepted
pub record IsFlowing (ds : List Transition) (w : PlainWorld) : Type 0 where
  pub held : (f : Weights) → held f w + sum_by (gives f) ds ≡ sum_by (takes f) ds
  pub accepted : (p : Ticket → ℕ) → accepted_count p w ≡ sum_by (fetches p) ds
  pub used : (p : Ticket → ℕ) → used_count p w ≡ sum_by (uses p) ds
  pub entered : (p : Ticket → ℕ) → sum_by (entered_count p) w.units ≡ sum_by (enters p) ds
  pub alive : (p : Ticket → ℕ) → sum_by (living_count p) w.units + sum_by (leaves p) ds ≡ sum_by (enters p) ds
  pub once : (t : Ticket) → sum_by (fetches (only t)) ds ≡ was_accepted t w

-- Weights by which a chain counts in some places alone

-- where it stands until it is used
abbrev pub chains : (Ticket → ℕ) → Weights
chains p =
    record {
      arrived = p;
      direct = p;
      kept = p;
      off = p;
      aside = p;
      taken = p;
      done = p;
      answered = nothing;
      opened = p;
      port = p;
    }

-- where its task is alive, from its Enter to its Leave
abbrev pub tasks : (Ticket → ℕ) → Weights
tasks p =
    record {
      arrived = nothing;
      direct = nothing;
      kept = p;
      off = p;
      aside = p;
      taken = p;
      done = p;
      answered = p;
      opened = nothing;
      port = nothing;
    }

-- where it isn't one of a task
abbrev pub slots : (Ticket → ℕ) → Weights
slots p =
    record {
      arrived = p;
      direct = p;
      kept = nothing;
      off = nothing;
      aside = nothing;
      taken = nothing;
      done = nothing;
      answered = nothing;
      opened = p;
      port = p;
    }

-- where how its task ends isn't known yet
abbrev pub jobs : (Ticket → ℕ) → Weights
jobs p =
    record {
      arrived = nothing;
      direct = nothing;
      kept = p;
      off = p;
      aside = p;
      taken = p;
      done = nothing;
      answered = nothing;
      opened = nothing;
      port = nothing;
    }

-- where that is known, and is to be told
abbrev pub dones : (Ticket → ℕ) → Weights
dones p =
    record {
      arrived = nothing;
      direct = nothing;
      kept = nothing;
      off = nothing;
      aside = nothing;
      taken = nothing;
      done = p;
      answered = nothing;
      opened = nothing;
      port = nothing;
    }

-- where it was told
abbrev pub tolds : (Ticket → ℕ) → Weights
tolds p =
    record {
      arrived = nothing;
      direct = nothing;
      kept = nothing;
      off = nothing;
      aside = nothing;
      taken = nothing;
      done = nothing;
      answered = p;
      opened = nothing;
      port = nothing;
    }

-- how often a ticket comes by, in transitions that lead to a world
pub record Tallies (p : Ticket → ℕ) (ds : List Transition) (w : PlainWorld) : Type 0 where
  pub slots : sum_by (fetches p) ds + sum_by (answers p) ds
      ≡ held (slots p) w + sum_by (enters p) ds + sum_by (uses p) ds
  pub jobs : sum_by (enters p) ds ≡ held (jobs p) w + sum_by (ends p) ds
  pub dones : sum_by (ends p) ds ≡ held (dones p) w + sum_by (answers p) ds
  pub tolds : sum_by (answers p) ds ≡ held (tolds p) w + sum_by (leaves p) ds
  pub chains : sum_by (fetches p) ds ≡ held (chains p) w + sum_by (uses p) ds
  pub tasks : sum_by (enters p) ds ≡ held (tasks p) w + sum_by (leaves p) ds
  pub uses : sum_by (directs p) ds + sum_by (answers p) ds ≤ sum_by (uses p) ds
