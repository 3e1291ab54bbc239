-- What a fetch answers, and what it leaves.
use Rattle.std.specs.Prelude.{ℕ, ◌≡◌, List, take, Option, Some, None, Result, Ok, Err}
use Rattle.ring_core.specs.State.{RingState, PlainChain, Owns, next_ticket, accepting, breaking}
use Rattle.ring_core.specs.Parts.{readable_bytes, first_bytes}
use Rattle.ring_core.specs.Offer.{Found, Refused, Nothing, Offers, MayLackMemory}
use Rattle.ring_core.specs.declared.chain.Fetched.{Fetched}
use Rattle.ring_core.specs.declared.fault.RingFault.{RingFault}
use Rattle.ring_core.specs.declared.fault.RingFault.TheVariants.{NoMemory}

-- the queue's offer is taken as this chain, with these bytes read at once
pub record Takes (old : RingState) (m : List ℕ) (c : PlainChain) (bytes : List ℕ) (new : RingState) : Type 0 where
  pub offer : Offers old m (Found c.id c.slots c.parts)
  pub ticket : c.ticket ≡ next_ticket old
  pub memory : c.memory ≡ old.memory
  pub bytes_are : bytes ≡ take first_bytes (readable_bytes m c.parts)
  pub after : new ≡ accepting old c.id c.slots
  pub owned : Owns new c

-- a fault breaks the queue; want of memory changes nothing
abbrev pub FaultLeaves : RingState → List ℕ → RingFault → RingState → Type 0
FaultLeaves old m NoMemory new = MayLackMemory old m × (new ≡ old)
FaultLeaves old m f new = Offers old m (Refused f) × (new ≡ breaking old f)

-- from old, with this memory, a fetch may answer this and leave new
abbrev pub Fetches : RingState → List ℕ → Result (Option Fetched) RingFault → RingState → Type 0
Fetches old m (Ok None) new = Offers old m Nothing × (new ≡ old)
Fetches old m (Ok (Some f)) new = Takes old m f.chain f.bytes.items new
Fetches old m (Err f) new = FaultLeaves old m f new
