-- That a request was answered without a receipt, as a plain value.
use Rattle.ring_core.specs.declared.log.Ticket.{Ticket}
use Rattle.phases.specs.declared.note.Cause.{Cause}

-- own: the chain of the ticket, and why
pub record PlainNote : Type 0 where
  pub ticket : Ticket
  pub cause : Cause

abbrev pub note_of : Ticket → Cause → PlainNote
note_of t why = record { ticket = t; cause = why }
