-- What a device still owes, and what pays for it.
use Rattle.std.specs.Prelude.{ℕ, zero, suc, ◌+◌, ◌*◌, List, [], length, Option, Some, None}
use Rattle.std.specs.List.{sum_by}
use Rattle.ring_core.specs.declared.fault.RingFault.{RingFault}
use Rattle.ring_core.specs.declared.log.Ticket.{Ticket}
use Rattle.unit_model.specs.Jobs.{PlainJob}
use Rattle.device_model.specs.Parts.{Hand}
use Rattle.device_model.specs.World.{PlainQueue, Seat, Opened, PlainWorld}
use Rattle.device_model.specs.Transitions.{Transition}
use Rattle.device_model.specs.Weights.{Weights, held, fetches, nothing}

-- own: at most so many transitions are left of a chain in each place; where it is put aside, of those that end it once
-- it is tried again and need not wait
abbrev pub owed : Weights
owed =
    record {
      arrived = λ t. 6;
      direct = λ t. 1;
      kept = λ t. 5;
      off = λ t. 4;
      aside = λ t. 2;
      taken = λ t. 3;
      done = λ t. 2;
      answered = λ t. 1;
      opened = λ t. 1;
      port = nothing;
    }

-- own: with its Fetch, of a chain of the control queue, of the event queue, of a request queue
abbrev pub price_at : ℕ → ℕ
price_at zero = 2
price_at (suc zero) = 1
price_at (suc (suc q)) = 7

abbrev pub price : Ticket → ℕ
price t = price_at t.queue

-- the marks and looks that the open function waits for
abbrev pub visits : Option Opened → ℕ
visits None = 0
visits (Some o) = length o.function.waits

abbrev pub if_whole : Option RingFault → ℕ
if_whole None = 1
if_whole (Some f) = 0

-- 1 for a queue that may still break
abbrev pub whole : PlainQueue → ℕ
whole q = if_whole q.ring.broken

-- a job that is to be tried again is taken, and may be put aside once more
abbrev pub measure : PlainWorld → ℕ
measure w =
    held owed w + 2 * length w.woken + visits w.function + length w.waiting + sum_by whole w.queues

-- the jobs that a transition has tried again, and how many these are; each is taken, and may be put aside once more
abbrev pub rouses : PlainWorld → Transition → List PlainJob
rouses w (Transition.Mark t p m jobs) = w.aside
rouses w (Transition.Hard p jobs) = w.aside
rouses w Transition.Wake = w.aside
rouses w d = []

abbrev pub roused : PlainWorld → Transition → ℕ
roused w d = length (rouses w d)

-- a chain pays its price, a unit that a function visits 2, a hard reset and a resize 2, a write of the guest, a wake and a
-- deal 1
abbrev pub pays : Transition → ℕ
pays (Transition.Mark t p m jobs) = 2
pays (Transition.Ask t unit_index rule b) = 2
pays (Transition.MarkRefused t) = 2
pays (Transition.Hard p jobs) = 2
pays (Transition.Resize unit_index blocks) = 2
pays (Transition.Poke x) = 1
pays Transition.Wake = 1
pays (Transition.Deal unit_index x) = 1
pays d = fetches price d

abbrev pub if_answered : Hand → ℕ
if_answered Hand.Empty = 0
if_answered (Hand.Taken x) = 0
if_answered (Hand.Done x o) = 0
if_answered (Hand.Answered unit_index t) = 1

-- 1 for a seat whose task was answered, and is to leave
abbrev pub answered_hand : Seat → ℕ
answered_hand s = if_answered s.hand
