-- What a chain counts where it stands, by its ticket, what a transition moves, and how the transitions of a run count.
use Rattle.std.specs.Prelude.{ℕ, ◌+◌, nat_lt, List, [], ◌∷◌, length, Option, Some, None, slice_get}
use Rattle.std.specs.List.{sum_by}
use Rattle.ring_core.specs.declared.log.Ticket.{Ticket}
use Rattle.unit_model.specs.Steps.{Step}
use Rattle.unit_model.specs.Unit.{PlainUnit}
use Rattle.device_model.specs.Parts.{Slot, Hand}
use Rattle.device_model.specs.World.{PlainQueue, Seat, PlainWorld, all_off}
use Rattle.device_model.specs.Transitions.{Transition}
use Rattle.device_model.specs.Changing.{bit}
use Rattle.device_model.specs.Places.{of_chain, of_job, of_function, at_unit, accepts, uses as of_used}

-- by place: arrived at its queue, or ready to be answered there; parked in a unit, or in a list of a seat; handed off;
-- put aside, or to be tried again; in a hand, to be committed, to be answered, or to leave; of the open function; an event buffer
pub record Weights : Type 0 where
  pub arrived : Ticket → ℕ
  pub direct : Ticket → ℕ
  pub kept : Ticket → ℕ
  pub off : Ticket → ℕ
  pub aside : Ticket → ℕ
  pub taken : Ticket → ℕ
  pub done : Ticket → ℕ
  pub answered : Ticket → ℕ
  pub opened : Ticket → ℕ
  pub port : Ticket → ℕ

abbrev pub in_slot : Weights → Slot → ℕ
in_slot f Slot.Empty = 0
in_slot f (Slot.Arrived x) = f.arrived x.chain.ticket
in_slot f (Slot.Direct c o) = f.direct c.ticket

abbrev pub in_hand : Weights → Hand → ℕ
in_hand f Hand.Empty = 0
in_hand f (Hand.Taken x) = f.taken x.chain.ticket
in_hand f (Hand.Done x o) = f.done x.chain.ticket
in_hand f (Hand.Answered unit_index t) = f.answered t

abbrev pub in_queue : Weights → PlainQueue → ℕ
in_queue f q = in_slot f q.slot

abbrev pub in_seat : Weights → Seat → ℕ
in_seat f s = in_hand f s.hand + sum_by (of_job f.kept) s.out

-- all that stands somewhere
abbrev pub held : Weights → PlainWorld → ℕ
held f w =
    sum_by (in_queue f) w.queues + sum_by (at_unit f.kept) w.units + sum_by (in_seat f) w.seats
    + sum_by (of_job f.off) (all_off w) + sum_by (of_job f.aside) w.aside + sum_by (of_job f.aside) w.woken + of_function f.opened w.function + sum_by (of_chain f.port) w.buffers

-- Transitions counted, each by what p says of the ticket of its chain

-- the chain is accepted, or used
abbrev pub fetches : (Ticket → ℕ) → Transition → ℕ
fetches p d = sum_by p (accepts d)

abbrev pub uses : (Ticket → ℕ) → Transition → ℕ
uses p d = sum_by p (of_used d)

-- it is answered from its queue's slot
abbrev pub directs : (Ticket → ℕ) → Transition → ℕ
directs p (Transition.Direct c o xs) = p c.ticket
directs p d = 0

-- it is answered from a hand
abbrev pub answers : (Ticket → ℕ) → Transition → ℕ
answers p (Transition.Answer k x o xs) = p x.chain.ticket
answers p d = 0

-- Histories counted

-- the Enters of a history
abbrev pub enter_count : (Ticket → ℕ) → List Step → ℕ
enter_count p [] = 0
enter_count p (Step.Enter e ∷ past) = p e.ticket + enter_count p past
enter_count p (step ∷ past) = enter_count p past

abbrev pub entered_count : (Ticket → ℕ) → PlainUnit → ℕ
entered_count p u = enter_count p u.steps

-- 1 where the queue of the ticket has accepted it
abbrev pub counts_in : Ticket → Option PlainQueue → ℕ
counts_in t None = 0
counts_in t (Some q) = bit (nat_lt t.number (length q.ring.log.accepted))

abbrev pub was_accepted : Ticket → PlainWorld → ℕ
was_accepted t w = counts_in t (slice_get w.queues t.queue)

-- Weights by which a chain counts in some places alone

abbrev pub nothing : Ticket → ℕ
nothing t = 0
