-- Whose Commit a step is.
use Rattle.std.specs.Prelude.{Option, Some, None}
use Rattle.ring_core.specs.declared.log.Ticket.{Ticket}
use Rattle.unit_log.specs.declared.kind.StepKind.{StepKind}
use Rattle.unit_log.specs.declared.kind.StepKind.TheVariants as kind

-- own: whose Commit a step of a kind is
abbrev pub committed : StepKind → Option Ticket
committed (kind.Commit t) = Some t
committed k = None

-- own: whose Commit a step is, if there is one
abbrev pub committed_one : Option StepKind → Option Ticket
committed_one None = None
committed_one (Some k) = committed k
