-- A chain that is to be answered, as a plain value, and what it leaves once it is.
use Rattle.std.specs.Prelude.{ℕ, List, Option, Some, None}
use Rattle.ring_core.specs.State.{PlainChain}
use Rattle.unit_model.specs.Endings.{Ending}
use Rattle.phases.specs.Notes.{PlainNote, note_of}
use Rattle.phases.specs.declared.note.Cause.{Cause}
use Rattle.phases.specs.declared.note.Cause.TheVariants as cause
use Rattle.device_model.specs.Parts.{Outcome, Slot}
use Rattle.phases.specs.declared.refusal.Refusal.{Refusal}
use Rattle.phases.specs.declared.refusal.Refusal.TheVariants as refusal

-- how a unit refused the request
abbrev pub refused_as : Refusal → Ending
refused_as refusal.Full = Ending.Full
refused_as refusal.Busy = Ending.Busy
refused_as refusal.Stale = Ending.Lost

-- the answer that was decided at the fetch, or how a unit refused the request
abbrev pub outcome_of : List ℕ → Option Refusal → Outcome
outcome_of bytes None = Outcome.Decided bytes
outcome_of bytes (Some r) = Outcome.Ended (refused_as r)

-- a chain that is to be answered, and how
pub record PlainDirectChain : Type 0 where
  pub chain : PlainChain
  pub outcome : Outcome

-- own: why a chain that needs no commit has no receipt: it was refused at its unit, or needed none
abbrev pub cause_for : Outcome → Cause
cause_for (Outcome.Decided bytes) = cause.Direct
cause_for (Outcome.Ended Ending.Full) = cause.Full
cause_for (Outcome.Ended Ending.Busy) = cause.Busy
cause_for (Outcome.Ended e) = cause.Stale

-- own: what the chain in the slot leaves once it is answered
abbrev pub note_in : Slot → Option PlainNote
note_in Slot.Empty = None
note_in (Slot.Arrived x) = None
note_in (Slot.Direct c o) = Some (note_of c.ticket (cause_for o))
