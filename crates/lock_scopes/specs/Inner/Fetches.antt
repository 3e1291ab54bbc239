-- Rests on `specs/Fetches.antt`; no promise rests on it.
use Rattle.std.specs.Prelude.{◌≡◌, ◌++◌, Bool, true, false, List, [], ◌∷◌, Option, Some, None, Result, Ok, Err}
use Rattle.foundation.specs.declared.NoMemory.{NoMemory}
use Rattle.ring_core.specs.declared.log.Ticket.{Ticket}
use Rattle.device_model.specs.Parts.{Slot}
use Rattle.phases.specs.declared.slot.Slot as declared_slot
use Rattle.phases.specs.declared.slot.Slot.TheVariants as slot
use Rattle.phases.specs.Notes.{PlainNote}
use Rattle.phases.specs.DirectChain.{note_in}

-- own: a ticket is lost if one was, or if a chain with its answer wasn't answered
abbrev pub Loses : Option Ticket → Bool → Bool → Option Ticket → Type 0
Loses lost direct answered after = after ≡ None → (lost ≡ None) × (direct ≡ true → answered ≡ true)

-- own: fetches, and what one more left, if it took a chain
abbrev pub with_left : declared_slot.Slot → List declared_slot.Slot → List declared_slot.Slot
with_left slot.Empty fetched = fetched
with_left (slot.Arrived x) fetched = fetched ++ slot.Arrived x ∷ []
with_left (slot.Direct c) fetched = fetched ++ slot.Direct c ∷ []

abbrev pub with_fetch : Result Bool NoMemory → declared_slot.Slot → List declared_slot.Slot → List declared_slot.Slot
with_fetch (Ok true) s fetched = with_left s fetched
with_fetch (Ok false) s fetched = fetched
with_fetch (Err e) s fetched = fetched

-- own: notes, and the one that a chain in a slot leaves, if it was answered
abbrev pub with_note : Option PlainNote → List PlainNote → List PlainNote
with_note None notes = notes
with_note (Some n) notes = notes ++ n ∷ []

abbrev pub with_answer : Bool → Slot → List PlainNote → List PlainNote
with_answer true s notes = with_note (note_in s) notes
with_answer false s notes = notes
