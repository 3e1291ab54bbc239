-- In which order the commands of one unit ran.
use Rattle.std.specs.Prelude.{ℕ, List, ◌∷◌}
use Rattle.command_model.specs.PlainReply.{PlainReply}
use Rattle.ring_core.specs.declared.log.Ticket.{Ticket}
use Rattle.unit_model.specs.Steps.{Step}
use Rattle.device_model.specs.Parts.{PlainFetch, ticket_of}
use Rattle.device_model.specs.Transitions.{Transition}
use Rattle.device_model.specs.Happened.{Happened, IsBeginning, IsFetch, IsAnswer}
use Rattle.device_model.specs.Histories.{Stands, StandsOn, history_of}

-- one step stands in the history before another
abbrev pub StandsBefore : Step → Step → List Step → Type 0
StandsBefore a b h = StandsOn b (Stands a) h

-- of two commands that one unit ran, where the second was fetched after the first was answered, the first ran first
abbrev pub AreInOrder : List Transition → Type 0
AreInOrder ds =
    (first : Ticket) (second : PlainFetch) (d : Transition) (past : List Transition) (unit_index : ℕ) (r q : PlainReply)
    → IsBeginning (d ∷ past) ds → IsFetch second d → Happened (IsAnswer first) past
    → Stands (Step.Commit first r) (history_of unit_index ds)
    → Stands (Step.Commit (ticket_of second) q) (history_of unit_index ds)
    → StandsBefore (Step.Commit first r) (Step.Commit (ticket_of second) q) (history_of unit_index ds)
