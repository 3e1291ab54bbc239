-- How the receipts that a seat was given stand to those that were counted for it.
use Rattle.std.specs.Prelude.{ℕ, ◌≡◌, ◌+◌, length, Option, Some, None}
use Rattle.ring_core.specs.declared.log.Ticket.{Ticket}
use Rattle.phases.specs.declared.hand.Hand.{Hand}
use Rattle.close_audit.specs.Keeping.{receipts_in}
use Rattle.close_audit.specs.declared.kept.Kept.{Kept}
use Rattle.lock_scopes.specs.Ledgers.{receipts_due}

-- own: how many receipts a seat kept
abbrev pub kept_by : Kept → ℕ
kept_by kept = length (receipts_in kept)

-- own: a number, of a seat that lost no receipt: a seat that did says nothing
abbrev pub unless_lost : Option Ticket → ℕ → ℕ
unless_lost None n = n
unless_lost (Some t) n = 0

-- own: as many receipts were counted for a seat as it kept, with the one that its hand is to give
abbrev pub Tallies : Option Ticket → ℕ → Kept → Hand → Type 0
Tallies lost counted kept hand = unless_lost lost counted ≡ unless_lost lost (kept_by kept + receipts_due hand)
