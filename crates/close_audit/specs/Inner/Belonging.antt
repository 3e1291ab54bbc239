-- What the search for a unit or a queue of another host finds.
use Rattle.std.specs.Prelude.{ℕ, ◌≡◌, ◌<◌, List, Option, Some, None, slice_get}
use Rattle.ring_core.specs.declared.log.Ticket.{Ticket}
use Rattle.request_intake.specs.declared.inventory.UnitSpec.{UnitSpec}
use Rattle.unit_model.specs.Unit.{PlainUnit}
use Rattle.virtqueue.specs.Queue.{BareQueue}
use Rattle.close_audit.specs.Opened.{IsOpenedAs, AreOpenedAs, AreInPlace, IsFirstMisplaced, IsForeign}

-- those before an index are as they were wanted
abbrev pub AreOpenedTo : List UnitSpec → List PlainUnit → ℕ → Type 0
AreOpenedTo specs units n = (k : ℕ) (s : UnitSpec) (u : PlainUnit) → k < n → slice_get specs k ≡ Some s
    → slice_get units k ≡ Some u → IsOpenedAs s u

abbrev pub AreInPlaceTo : List BareQueue → ℕ → Type 0
AreInPlaceTo queues n = (k : ℕ) (q : BareQueue) → k < n → slice_get queues k ≡ Some q → q.ring.queue ≡ k

abbrev pub Misplaces : List BareQueue → Option Ticket → Type 0
Misplaces queues None = AreInPlace queues
Misplaces queues (Some t) = IsFirstMisplaced queues t

-- the ticket that is named where a report is of another host, if it is
abbrev pub FindsForeign : List UnitSpec → List PlainUnit → List BareQueue → Option Ticket → Type 0
FindsForeign specs units queues None = AreOpenedAs specs units × AreInPlace queues
FindsForeign specs units queues (Some t) = IsForeign specs units queues t
