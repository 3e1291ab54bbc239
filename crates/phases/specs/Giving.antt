-- What a request leaves once it is answered.
use Rattle.std.specs.Prelude.{◌≡◌, Bool, true, false, Option, Some, None, ⊤}
use Rattle.std.specs.Option.{option_map}
use Rattle.ring_core.specs.declared.log.Ticket.{Ticket}
use Rattle.unit_model.specs.Unit.{PlainUnit}
use Rattle.logical_unit.specs.Calls.{Commits}
use Rattle.logical_unit.specs.declared.outcomes.Outcome as answers
use Rattle.logical_unit.specs.declared.outcomes.Outcome.TheVariants as outcome
use Rattle.phases.specs.Parts.{outcome_in}
use Rattle.phases.specs.declared.hand.Hand.{Hand}
use Rattle.phases.specs.declared.hand.Hand.TheVariants as hand
use Rattle.phases.specs.declared.note.Cause.TheVariants as cause
use Rattle.phases.specs.declared.receipt_or_note.ReceiptOrNote.{ReceiptOrNote}
use Rattle.phases.specs.declared.receipt_or_note.ReceiptOrNote.TheVariants as given
use Rattle.phases.specs.Notes.{note_of}

-- own: a job is given the receipt of its Commit; where it has none, a note of why
abbrev pub given_for : Ticket → answers.Outcome → ReceiptOrNote
given_for t (outcome.Reply receipt) = given.Receipt receipt
given_for t (outcome.Aborted why) = given.Note (note_of t cause.Aborted)
given_for t outcome.Busy = given.Note (note_of t cause.Busy)
given_for t outcome.Unknown = given.Note (note_of t cause.Unknown)

-- own: what the job in the hand leaves once it is answered
abbrev pub given_in : Hand → Option ReceiptOrNote
given_in hand.Empty = None
given_in (hand.Job h) = option_map (given_for h.job.chain.ticket) h.outcome
given_in (hand.Answered unit_index t) = None

-- own: a Commit was made, and left a receipt
abbrev pub is_reply : Option answers.Outcome → Bool
is_reply None = false
is_reply (Some (outcome.Reply receipt)) = true
is_reply (Some (outcome.Aborted why)) = false
is_reply (Some outcome.Busy) = false
is_reply (Some outcome.Unknown) = false

-- own: the hand has a receipt that it is to give
abbrev pub has_receipt : Hand → Bool
has_receipt h = is_reply (outcome_in h)

-- own: the job in the hand was committed, and the hand has what the unit answered
abbrev pub KeepsOutcome : Hand → PlainUnit → PlainUnit → Hand → Type 0
KeepsOutcome hand.Empty u v h' = ⊤
KeepsOutcome (hand.Job h) u v h' = (o : answers.Outcome) × Commits u h.job o v
    × (h' ≡ hand.Job (record h { outcome = Some o }))
KeepsOutcome (hand.Answered unit_index t) u v h' = ⊤
