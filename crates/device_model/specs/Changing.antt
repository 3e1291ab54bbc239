-- What events change of a queue, a seat, a list of the hand-off, or the open function.
use Rattle.std.specs.Prelude.{ℕ, Bool, if◌then◌else◌, List, [], ◌∷◌, Some, None, ◌+◌, ◌++◌, drop, Option}
use Rattle.ring_core.specs.State.{PlainChain, RingState, accepting, using, breaking}
use Rattle.ring_core.specs.Offer.{wants_notice}
use Rattle.ring_core.specs.declared.fault.RingFault.{RingFault}
use Rattle.unit_model.specs.Jobs.{PlainJob}
use Rattle.task_mgmt.specs.Functions.{PlainFunction}
use Rattle.device_model.specs.Parts.{Completion, Slot, Hand}
use Rattle.device_model.specs.World.{PlainQueue, Seat, Opened, PlainWorld, change}

abbrev pub bit : Bool → ℕ
bit b = if b then 1 else 0

-- the ring once the chain of a fetch was accepted
abbrev pub with_chain : PlainChain → RingState → RingState
with_chain c s = accepting s c.id c.slots

abbrev pub arriving : PlainChain → Slot → PlainQueue → PlainQueue
arriving c s q = record q { ring = with_chain c q.ring; slot = s }

abbrev pub taking : PlainChain → PlainQueue → PlainQueue
taking c q = record q { ring = with_chain c q.ring }

abbrev pub slotted : Slot → PlainQueue → PlainQueue
slotted s q = record q { slot = s }

abbrev pub broken_by : RingFault → PlainQueue → PlainQueue
broken_by f q = record q { ring = breaking q.ring f }

-- a chain was used, and memory was seen as this then: the driver may want a notice
abbrev pub used_in : List ℕ → PlainChain → RingState → PlainQueue → PlainQueue
used_in m c s q = record q { ring = using s c; notices = q.notices + bit (wants_notice (using s c) m) }

abbrev pub completing : List ℕ → PlainChain → PlainQueue → PlainQueue
completing m c q = used_in m c q.ring q

abbrev pub directing : List ℕ → PlainChain → PlainQueue → PlainQueue
directing m c q = slotted Slot.Empty (completing m c q)

abbrev pub spending : List ℕ → PlainChain → PlainQueue → PlainQueue
spending m c q = used_in m c (with_chain c q.ring) q

abbrev pub with_hand : Hand → Seat → Seat
with_hand h s = record { hand = h; out = s.out }

abbrev pub without_first : Hand → Seat → Seat
without_first h s = record { hand = h; out = drop 1 s.out }

abbrev pub with_jobs : List PlainJob → Seat → Seat
with_jobs xs s = record { hand = s.hand; out = s.out ++ xs }

abbrev pub leaving : List PlainJob → Seat → Seat
leaving xs s = record { hand = Hand.Empty; out = s.out ++ xs }

abbrev pub with_job : PlainJob → List PlainJob → List PlainJob
with_job x jobs = jobs ++ x ∷ []

abbrev pub on_function : (PlainFunction → PlainFunction) → Option Opened → Option Opened
on_function f None = None
on_function f (Some o) = Some (record o { function = f o.function })

-- the chain of a queue is used so
abbrev pub completed : PlainChain → Completion → PlainWorld → List PlainQueue
completed c xs w = change (completing xs.seen c) c.ticket.queue w.queues
