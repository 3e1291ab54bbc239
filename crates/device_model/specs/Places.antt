-- Where the chains stand that were accepted and aren't used yet.
use Rattle.std.specs.Prelude.{ℕ, ◌≡◌, ◌+◌, ◌&&◌, eqb, List, [], ◌∷◌, length, Option, Some, None}
use Rattle.std.specs.List.{sum_by}
use Rattle.ring_core.specs.State.{PlainChain}
use Rattle.ring_core.specs.declared.log.Ticket.{Ticket}
use Rattle.unit_model.specs.Jobs.{PlainJob}
use Rattle.unit_model.specs.Unit.{PlainUnit}
use Rattle.device_model.specs.Parts.{Slot}
use Rattle.device_model.specs.World.{PlainQueue, Opened, PlainWorld}
use Rattle.device_model.specs.Transitions.{Transition}
use Rattle.device_model.specs.Changing.{bit}
use Rattle.device_model.specs.Laws.{jobs_out}

-- What a place's chains count, each by what p says of its ticket

abbrev pub of_chain : (Ticket → ℕ) → PlainChain → ℕ
of_chain p c = p c.ticket

abbrev pub of_job : (Ticket → ℕ) → PlainJob → ℕ
of_job p x = p x.chain.ticket

abbrev pub of_slot : (Ticket → ℕ) → Slot → ℕ
of_slot p Slot.Empty = 0
of_slot p (Slot.Arrived x) = p x.chain.ticket
of_slot p (Slot.Direct c o) = p c.ticket

abbrev pub of_function : (Ticket → ℕ) → Option Opened → ℕ
of_function p None = 0
of_function p (Some o) = p o.chain.ticket

abbrev pub at_queue : (Ticket → ℕ) → PlainQueue → ℕ
at_queue p q = of_slot p q.slot

abbrev pub at_unit : (Ticket → ℕ) → PlainUnit → ℕ
at_unit p u = sum_by (of_job p) u.parked

-- the slots of the queues, the parked jobs of the units, the jobs of the seats, of the hand-off and of those that wait for
-- pages, the open function, and the event buffers
abbrev pub standing_count : (Ticket → ℕ) → PlainWorld → ℕ
standing_count p w =
    sum_by (at_queue p) w.queues + sum_by (at_unit p) w.units + jobs_out (of_job p) w + of_function p w.function
    + sum_by (of_chain p) w.buffers

-- What the logs of all queues count

abbrev pub log_accepted : (Ticket → ℕ) → PlainQueue → ℕ
log_accepted p q = sum_by p q.ring.log.accepted

abbrev pub log_used : (Ticket → ℕ) → PlainQueue → ℕ
log_used p q = sum_by p q.ring.log.used

abbrev pub accepted_count : (Ticket → ℕ) → PlainWorld → ℕ
accepted_count p w = sum_by (log_accepted p) w.queues

abbrev pub used_count : (Ticket → ℕ) → PlainWorld → ℕ
used_count p w = sum_by (log_used p) w.queues

-- 1 for this ticket, 0 for any other
abbrev pub only : Ticket → Ticket → ℕ
only t s = bit (eqb t.queue s.queue && eqb t.number s.number)

-- how many chains the queues have accepted, and have used
abbrev pub accepted_chains : PlainWorld → ℕ
accepted_chains w = sum_by (λ (q : PlainQueue). length q.ring.log.accepted) w.queues

abbrev pub used_chains : PlainWorld → ℕ
used_chains w = sum_by (λ (q : PlainQueue). length q.ring.log.used) w.queues

-- the tickets that a transition accepts, and those that it uses
abbrev pub accepts : Transition → List Ticket
accepts (Transition.Arrive f x) = f.chain.ticket ∷ []
accepts (Transition.Refuse f a) = f.chain.ticket ∷ []
accepts (Transition.Open f g) = f.chain.ticket ∷ []
accepts (Transition.Hold f) = f.chain.ticket ∷ []
accepts (Transition.UseBuffer f xs) = f.chain.ticket ∷ []
accepts d = []

abbrev pub uses : Transition → List Ticket
uses (Transition.UseBuffer f xs) = f.chain.ticket ∷ []
uses (Transition.Direct c o xs) = c.ticket ∷ []
uses (Transition.Answer k x o xs) = x.chain.ticket ∷ []
uses (Transition.Respond c r xs) = c.ticket ∷ []
uses (Transition.Give e c xs) = c.ticket ∷ []
uses d = []

-- a transition moves chains from place to place: it adds what it accepts, and takes away what it uses
pub record Moves (p : Ticket → ℕ) (d : Transition) (old new : PlainWorld) : Type 0 where
  pub accepted : accepted_count p new ≡ accepted_count p old + sum_by p (accepts d)
  pub used : used_count p new ≡ used_count p old + sum_by p (uses d)
  pub standing : standing_count p new + sum_by p (uses d) ≡ standing_count p old + sum_by p (accepts d)
