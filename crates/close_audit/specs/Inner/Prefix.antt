-- What is known of the receipts that were looked at so far.
use Rattle.std.specs.Prelude.{ℕ, ◌≡◌, ◌<◌, true, List, Option, Some, None, slice_get}
use Rattle.ring_core.specs.declared.log.Ticket.{Ticket}
use Rattle.unit_model.specs.Receipts.{Receipt}
use Rattle.unit_model.specs.Unit.{PlainUnit}
use Rattle.close_audit.specs.Words.{is_before}
use Rattle.close_audit.specs.Closed.{IsConfirmedBy}

pub record IsFirstTo (units : List PlainUnit) (receipts : List Receipt) (i : ℕ) (t : Ticket) : Type 0 where
  pub some : (k : ℕ) × (c : Receipt) × (slice_get receipts k ≡ Some c) × (c.ticket ≡ t) × (IsConfirmedBy units c → ⊥)
  pub first : (k : ℕ) (c : Receipt) → k < i → slice_get receipts k ≡ Some c → is_before c.ticket t ≡ true
      → IsConfirmedBy units c

abbrev pub ConfirmsTo : List PlainUnit → List Receipt → ℕ → Option Ticket → Type 0
ConfirmsTo units receipts i None = (k : ℕ) (c : Receipt) → k < i → slice_get receipts k ≡ Some c → IsConfirmedBy units c
ConfirmsTo units receipts i (Some t) = IsFirstTo units receipts i t
