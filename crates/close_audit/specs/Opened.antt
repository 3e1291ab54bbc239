-- Whether a report is of the host that was opened.
use Rattle.std.specs.Prelude.{ℕ, ◌≡◌, ◌<◌, ◌⊎◌, true, List, length, Some, slice_get}
use Rattle.ring_core.specs.declared.log.Ticket.{Ticket}
use Rattle.request_intake.specs.declared.inventory.UnitSpec.{UnitSpec}
use Rattle.unit_model.specs.Unit.{PlainUnit}
use Rattle.virtqueue.specs.Queue.{BareQueue}

-- own: a unit opened with the address, the capacity, the profile and the names that were wanted, and keeps the replies that
-- receipts are compared with
pub record IsOpenedAs (s : UnitSpec) (u : PlainUnit) : Type 0 where
  pub target : u.opening.target ≡ s.target
  pub lun : u.opening.lun ≡ s.lun
  pub blocks : u.opening.blocks ≡ s.blocks
  pub profile : u.opening.profile ≡ s.profile
  pub identity : u.opening.identity ≡ s.identity
  pub keeps : u.keeps_replies ≡ true

-- own: these are the units that were wanted, each at its index
pub record AreOpenedAs (specs : List UnitSpec) (units : List PlainUnit) : Type 0 where
  pub count : length units ≡ length specs
  pub each : (k : ℕ) (s : UnitSpec) (u : PlainUnit) → slice_get specs k ≡ Some s → slice_get units k ≡ Some u
      → IsOpenedAs s u

-- own: each queue stands at the index of its number
abbrev pub AreInPlace : List BareQueue → Type 0
AreInPlace queues = (k : ℕ) (q : BareQueue) → slice_get queues k ≡ Some q → q.ring.queue ≡ k

-- own: the first ticket of the first index at which a queue of another number stands
pub record IsFirstMisplaced (queues : List BareQueue) (t : Ticket) : Type 0 where
  pub number : t.number ≡ 0
  pub some : (q : BareQueue) × (slice_get queues t.queue ≡ Some q) × (q.ring.queue ≡ t.queue → ⊥)
  pub first : (k : ℕ) (q : BareQueue) → k < t.queue → slice_get queues k ≡ Some q → q.ring.queue ≡ k

-- the first ticket of all: of the control queue (VIRTIO 1.2, 5.6.2)
abbrev pub first_ticket : Ticket
first_ticket = record { queue = 0; number = 0 }

-- own: which ticket is named where a report isn't of the host that was opened: the first of all, where the units aren't
-- those that were wanted; else that of the first queue that isn't at its index
abbrev pub IsForeign : List UnitSpec → List PlainUnit → List BareQueue → Ticket → Type 0
IsForeign specs units queues t =
    ((AreOpenedAs specs units → ⊥) × (t ≡ first_ticket))
    ⊎ (AreOpenedAs specs units × IsFirstMisplaced queues t)
