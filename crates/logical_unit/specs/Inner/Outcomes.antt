-- What is answered for a command that was performed.
use Rattle.std.specs.Prelude.{ℕ, Option, Some, None}
use Rattle.ring_core.specs.declared.log.Ticket.{Ticket}
use Rattle.scsi_codec.specs.declared.lun.Address.{Address}
use Rattle.logical_unit.specs.Inner.Performing.{PlainPerformed}
use Rattle.logical_unit.specs.declared.outcomes.Outcome.{Outcome}
use Rattle.logical_unit.specs.declared.outcomes.Outcome.TheVariants as outcome

-- under the ticket and at the place of its step
abbrev pub outcome_for : Address → ℕ → Ticket → Option PlainPerformed → Outcome
outcome_for unit place t None = outcome.Busy
outcome_for unit place t (Some p) =
    outcome.Reply (record { unit = unit; place = place; ticket = t; reply = Some p.reply })
