-- Rests on `specs/Apart.antt`; no promise rests on it.
use Rattle.std.specs.Prelude.{ℕ, Bool, false, List, [], Result}
use Rattle.foundation.specs.declared.NoMemory.{NoMemory}
use Rattle.ring_core.specs.Writes.{Write}
use Rattle.device_model.specs.Events.{Event}
use Rattle.device_model.specs.After.{after}
use Rattle.device_model.specs.Turns.{Turns}
use Rattle.phases.specs.InMemory.{EachSeen}
use Rattle.device_steps.specs.Inner.Steps.{TurnsOrWants}
use Rattle.device_steps.specs.Sound.{AreFew}
use Rattle.device_steps.specs.Inner.Sound.{IsSound}
use Rattle.device_steps.specs.Apart.{PlainDevice, standing, TurnsSeen}

-- whatever stands in memory, the event takes its turn there, if the device is sound with it; memory stays as it is
abbrev pub TurnsAlone : PlainDevice → Event → Bool → PlainDevice → Type 0
TurnsAlone d e changed d' =
    (shared : Bool) (m : List ℕ) → IsSound (standing shared m d)
    → Turns (standing shared m d) e changed (standing shared m d')

-- that, or the memory that the event asks the host for was refused
abbrev pub TurnsAloneOrWants : PlainDevice → Event → Result Bool NoMemory → PlainDevice → Type 0
TurnsAloneOrWants d e result d' =
    (shared : Bool) (m : List ℕ) → IsSound (standing shared m d) → AreFew (standing shared m d)
    → TurnsOrWants (standing shared m d) e result (standing shared m d')

-- One event in a memory that others may write too

-- whatever may be seen afterwards, the event takes its turn on a memory that may have been found
abbrev pub TurnsIn : Bool → (List ℕ → Type 0) → (List ℕ → Type 0) → (List Write → Type 0) → PlainDevice → Event → Bool
    → PlainDevice → Type 0
TurnsIn shared before after stored d e changed d' =
    EachSeen shared before after
    (λ found left seen. TurnsSeen stored seen (standing shared found d) e changed (standing shared left d'))

-- it has few parts, whatever stands in memory
abbrev pub HasFew : PlainDevice → Type 0
HasFew d = AreFew (standing false [] d)

-- the device is sound whatever the memory may be
abbrev pub IsSoundIn : Bool → (List ℕ → Type 0) → PlainDevice → Type 0
IsSoundIn shared may_be d = (m : List ℕ) → may_be m → IsSound (standing shared m d)
