-- Whether receipts are confirmed.
use Rattle.std.specs.Prelude.{ℕ, ◌≡◌, Bool, true, false, List, Option, Some, None, slice_get}
use Rattle.ring_core.specs.declared.log.Ticket.{Ticket}
use Rattle.ring_core.specs.Sound.{IsSound}
use Rattle.unit_model.specs.Receipts.{Receipt}
use Rattle.unit_model.specs.Unit.{PlainUnit, IsUnit}
use Rattle.virtqueue.specs.Queue.{BareQueue}
use Rattle.close_audit.specs.Closed.{AreConfirmed, IsFirstUnconfirmed}

-- the first ticket of a receipt that isn't confirmed, if there is one
abbrev pub Confirms : List PlainUnit → List Receipt → Option Ticket → Type 0
Confirms units receipts None = AreConfirmed units receipts
Confirms units receipts (Some t) = IsFirstUnconfirmed units receipts t

abbrev pub with_unconfirmed : Bool → Ticket → Option Ticket
with_unconfirmed true t = None
with_unconfirmed false t = Some t

abbrev pub AllStand : List PlainUnit → Type 0
AllStand units = (k : ℕ) (u : PlainUnit) → slice_get units k ≡ Some u → IsUnit u

abbrev pub AllSound : List BareQueue → Type 0
AllSound queues = (k : ℕ) (q : BareQueue) → slice_get queues k ≡ Some q → IsSound q.ring
