-- What makes a ticket outstanding, source by source.
use Rattle.std.specs.Prelude.{ℕ, Bool, true, false, not, nat_lt, ◌==◌, ◌&&◌, ◌||◌, List, length, Option, Some, None, slice_get, Vec, is_some}
use Rattle.std.specs.List.{list_any}
use Rattle.std.specs.declared.alloc.Global.{Global}
use Rattle.ring_core.specs.declared.log.Ticket.{Ticket}
use Rattle.unit_model.specs.Tasks.{same_ticket}
use Rattle.virtqueue.specs.Queue.{BareQueue}
use Rattle.close_audit.specs.Inner.Tallies.{tally_at, ends_amiss}
use Rattle.close_audit.specs.declared.tally.Tally.{Tally}

-- a chain that the queue at an index accepted and did not use
abbrev pub unused_in : ℕ → BareQueue → Ticket → Bool
unused_in queue_index q t =
    (t.queue == queue_index)
    && (nat_lt t.number (length q.ring.log.accepted)
    && not (list_any (λ (u : Ticket). same_ticket u t) q.ring.log.used))

-- a request of the queue at an index, of which these are the tallies, that is not settled; and whether steps are folded
abbrev pub unsettled_in : ℕ → ℕ → Bool → List (Vec Tally Global) → Ticket → Bool
unsettled_in queue_index count folded tables t =
    (t.queue == queue_index) && (nat_lt t.number count && ends_amiss folded (tally_at tables t))

abbrev pub amiss_in : ℕ → BareQueue → Bool → List (Vec Tally Global) → Ticket → Bool
amiss_in queue_index q folded tables t =
    (not (queue_index == 1) && unused_in queue_index q t) || unsettled_in queue_index (length q.ring.log.accepted) folded tables t

-- the same of the queue that a ticket names, if there is one
abbrev pub amiss_at : Option BareQueue → Bool → List (Vec Tally Global) → Ticket → Bool
amiss_at None folded tables t = false
amiss_at (Some q) folded tables t = amiss_in t.queue q folded tables t

abbrev pub amiss_of : List BareQueue → Bool → List (Vec Tally Global) → Ticket → Bool
amiss_of queues folded tables t = amiss_at (slice_get queues t.queue) folded tables t

-- what has an answer and is no request of these
abbrev pub stray : {A : Type 0} → (A → Ticket) → List (Vec Tally Global) → List A → Ticket → Bool
stray ticket tables answers t = not (is_some (tally_at tables t)) && list_any (λ a. same_ticket (ticket a) t) answers

-- the ticket, if it is no request
abbrev pub stray_one : Bool → Ticket → Option Ticket
stray_one true t = None
stray_one false t = Some t
