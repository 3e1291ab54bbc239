-- What the device holds of an event buffer.
use Rattle.std.specs.Prelude.{ℕ, ◌≡◌, ◌≤◌, List, length}
use Rattle.ring_core.specs.State.{PlainChain}
use Rattle.ring_core.specs.Parts.{writable_total}
use Rattle.ring_core.specs.Writes.{scatter_writes}
use Rattle.ring_core.specs.Inner.Narrow.{narrowed}
use Rattle.event_queue.specs.Inner.Port.{HoldsEvent}

-- of the chain that the guest gave only the bytes that an event takes are held, in a part for each of them at most; an
-- event is written there as over the whole chain
pub record IsHeldOf (given held : PlainChain) : Type 0 where
  pub fits : HoldsEvent given
  pub narrow : held ≡ narrowed 16 given
  pub few : length held.parts ≤ 16
  pub room : 16 ≤ writable_total held.parts
  pub same : (bytes : List ℕ) → length bytes ≤ 16 → scatter_writes held.parts 0 bytes ≡ scatter_writes given.parts 0 bytes
