-- What is known of a report that a closed host gives, and why none is given.
use Rattle.std.specs.Prelude.{ℕ, ◌≡◌, Bool, true, false, not, nat_le, ◌&&◌, ◌||◌, List, Option, Some, None, slice_get, Result, Ok, Err, ⊤, ◌⊎◌}
use Rattle.ring_core.specs.declared.log.Ticket.{Ticket}
use Rattle.ring_core.specs.Sound.{IsSound}
use Rattle.request_intake.specs.declared.inventory.UnitSpec.{UnitSpec}
use Rattle.unit_model.specs.Steps.{has_entered, has_left}
use Rattle.unit_model.specs.Base.{base_of, kept_steps}
use Rattle.unit_model.specs.Receipts.{Receipt, IsConfirmed}
use Rattle.unit_model.specs.Unit.{PlainUnit, IsUnit}
use Rattle.virtqueue.specs.Queue.{BareQueue}
use Rattle.phases.specs.Notes.{PlainNote}
use Rattle.phases.specs.declared.note.Cause.TheVariants as cause
use Rattle.close_audit.specs.declared.report.Report.{Report}
use Rattle.close_audit.specs.declared.fault.CloseFault.{CloseFault}
use Rattle.close_audit.specs.declared.fault.CloseFault.TheVariants as fault
use Rattle.close_audit.specs.Opened.{AreOpenedAs, AreInPlace, IsForeign}
use Rattle.close_audit.specs.Words.{has_run, is_before}
use Rattle.close_audit.specs.Settled.{is_asked, is_used, is_request, is_settled, is_astray, has_answer, answers, is_of, any_entered, any_run, any_full, any_folded}

-- a ticket is the first, by queue and number, that passes a test; or none passes it
abbrev pub IsFirst : (Ticket → Bool) → Option Ticket → Type 0
IsFirst test None = (t : Ticket) → test t ≡ false
IsFirst test (Some t) = (test t ≡ true) × ((u : Ticket) → is_before u t ≡ true → test u ≡ false)

-- own: a unit can say of a place whether a Commit stands there: it keeps receipts' replies, or the place isn't folded
abbrev pub has_commits : PlainUnit → ℕ → Bool
has_commits u place = u.keeps_replies || nat_le (base_of u.steps) place

-- a unit can say so of a receipt's place, and the Commit of the receipt stands there in its history
abbrev pub ConfirmsOne : PlainUnit → Receipt → Type 0
ConfirmsOne u c = (has_commits u c.place ≡ true) × IsConfirmed u.opening u.keeps_replies u.steps c

-- one of these units confirms the receipt
abbrev pub IsConfirmedBy : List PlainUnit → Receipt → Type 0
IsConfirmedBy units c = (k : ℕ) × (u : PlainUnit) × (slice_get units k ≡ Some u) × ConfirmsOne u c

abbrev pub AreConfirmed : List PlainUnit → List Receipt → Type 0
AreConfirmed units receipts = (k : ℕ) (c : Receipt) → slice_get receipts k ≡ Some c → IsConfirmedBy units c

-- own: the ticket is that of a receipt that isn't confirmed, and the first such
pub record IsFirstUnconfirmed (units : List PlainUnit) (receipts : List Receipt) (t : Ticket) : Type 0 where
  pub some : (k : ℕ) × (c : Receipt) × (slice_get receipts k ≡ Some c) × (c.ticket ≡ t) × (IsConfirmedBy units c → ⊥)
  pub first : (k : ℕ) (c : Receipt) → slice_get receipts k ≡ Some c → is_before c.ticket t ≡ true
      → IsConfirmedBy units c

-- own: the chain of a request or control queue isn't used, or the request isn't settled; or what is no accepted request
-- has a receipt or a note all the same
abbrev pub is_outstanding : List PlainUnit → List BareQueue → List Receipt → List PlainNote → Ticket → Bool
is_outstanding units queues receipts notes t =
    (is_asked queues t && not (is_used queues t))
    || ((is_request queues t && not (is_settled units receipts notes t))
    || (not (is_request queues t) && has_answer receipts notes t))

pub record IsReport (specs : List UnitSpec) (units : List PlainUnit) (queues : List BareQueue) (receipts : List Receipt)
    (notes : List PlainNote) : Type 0 where
  -- the units are those that were wanted, and each queue stands at the index of its number
  pub opened : AreOpenedAs specs units
  pub in_place : AreInPlace queues
  -- each history is lawful, and its unit is what it says
  pub units_stand : (k : ℕ) (u : PlainUnit) → slice_get units k ≡ Some u → IsUnit u
  -- each log is lawful
  pub logs_lawful : (k : ℕ) (q : BareQueue) → slice_get queues k ≡ Some q → IsSound q.ring
  -- each accepted chain of a request or control queue is used
  pub used : (t : Ticket) → is_asked queues t ≡ true → is_used queues t ≡ true
  -- each request has exactly one receipt or note, and these are of requests alone
  pub answered_once : (t : Ticket) → is_request queues t ≡ true → answers receipts notes t ≡ 1
  pub of_requests : (t : Ticket) → is_request queues t ≡ false → has_answer receipts notes t ≡ false
  -- no note is Stale or Unknown
  pub known : (k : ℕ) (n : PlainNote) → slice_get notes k ≡ Some n → (n.cause ≡ cause.Stale → ⊥)
      × (n.cause ≡ cause.Unknown → ⊥)
  -- each receipt's Commit stands at its place
  pub confirmed : AreConfirmed units receipts
  -- each request that entered has left there
  pub left : (t : Ticket) (k : ℕ) (u : PlainUnit) → is_request queues t ≡ true → slice_get units k ≡ Some u
      → has_entered t u.steps ≡ true → has_left t u.steps ≡ true
  -- no two units keep steps of one request, or know its folded Commit
  pub in_one : (t : Ticket) → is_request queues t ≡ true → is_astray units t ≡ false
  -- a unit that keeps the Enter of what has a receipt has its Commit, too
  pub ran : (j k : ℕ) (c : Receipt) (u : PlainUnit) → slice_get receipts j ≡ Some c → slice_get units k ≡ Some u
      → has_entered c.ticket (kept_steps u.steps) ≡ true → has_run c.ticket u.steps ≡ true
  -- where a unit keeps its Enter, a note is of its Busy or its mark there; and no note is of what has a Commit, which may
  -- be folded
  pub of_its_end : (j k : ℕ) (n : PlainNote) (u : PlainUnit) → slice_get notes j ≡ Some n → slice_get units k ≡ Some u
      → has_entered n.ticket (kept_steps u.steps) ≡ true → is_of n.cause n.ticket u.steps ≡ true
  pub of_no_commit : (j : ℕ) (n : PlainNote) → slice_get notes j ≡ Some n → any_run units n.ticket ≡ false
  -- where nothing is folded, what has no Enter has no note Aborted, and a note Full only with a Full
  pub aborted_entered : (j : ℕ) (n : PlainNote) → slice_get notes j ≡ Some n → n.cause ≡ cause.Aborted
      → (any_entered units n.ticket || any_folded units) ≡ true
  pub full_stands : (j : ℕ) (n : PlainNote) → slice_get notes j ≡ Some n → n.cause ≡ cause.Full
      → (any_full units n.ticket || any_folded units) ≡ true

-- own: why a report of a host with these units is refused, and which ticket is named: the first that is outstanding; or,
-- where none is, that of a unit or a queue of another host
abbrev pub Refuses : List UnitSpec → Report → CloseFault → Type 0
Refuses specs r fault.NoMemory = ⊤
Refuses specs r (fault.Unconfirmed t) = IsFirstUnconfirmed r.units.items r.receipts.items t
Refuses specs r (fault.Outstanding t) =
    AreConfirmed r.units.items r.receipts.items
    × (IsFirst (is_outstanding r.units.items r.queues.items r.receipts.items r.notes.items) (Some t)
    ⊎ (IsFirst (is_outstanding r.units.items r.queues.items r.receipts.items r.notes.items) None
    × IsForeign specs r.units.items r.queues.items t))

-- own: a report is given as it was where nothing is outstanding, and it is of this host; nothing is where it is given
abbrev pub Examines : List UnitSpec → Report → Result Report CloseFault → Type 0
Examines specs r (Ok given) =
    (given ≡ r) × IsReport specs r.units.items r.queues.items r.receipts.items r.notes.items
    × IsFirst (is_outstanding r.units.items r.queues.items r.receipts.items r.notes.items) None
Examines specs r (Err f) = Refuses specs r f
