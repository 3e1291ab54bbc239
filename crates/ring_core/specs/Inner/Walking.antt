-- What the walks of the rings answer to one another.
use Rattle.std.specs.Prelude.{ℕ, ◌≡◌, ◌≤◌, ◌<◌, ◌^◌, List, ◌++◌, [], map, None}
use Rattle.ring_core.specs.Walk.{nothing_before, part_of, amount, Sequence, IsRun, IsFault, ChainFails}
use Rattle.ring_core.specs.declared.descriptor.Part.{Part}
use Rattle.ring_core.specs.declared.descriptor.Descriptor.{Descriptor}
use Rattle.ring_core.specs.declared.before.Before.{Before}
use Rattle.ring_core.specs.declared.run.Run.{Run}
use Rattle.ring_core.specs.declared.fault.RingFault.{RingFault}
use Rattle.ring_core.specs.declared.fault.RingFault.TheVariants.{NoMemory}

-- a run of at most so many as a walk gives it: its last descriptor, what stands before that, and the parts before it,
-- behind earlier ones
pub record Walks (s : Sequence) (size : ℕ) (first : Before) (earlier : List Part) (r : Run) : Type 0 where
  pub direct : List Descriptor
  pub run : IsRun s first direct r.last
  pub before : r.before ≡ amount first direct
  pub found : r.draft ≡ earlier ++ map part_of direct
  pub bounded : r.before.total ≤ 2 ^ 32
  pub few : r.before.count < size

-- a walk finds this wrong with a run; memory is wanted once its first descriptor was found right
abbrev pub RunFailsOrLacks : Sequence → Before → RingFault → Type 0
RunFailsOrLacks s first NoMemory = s.wrong (amount first []) (s.at 0) ≡ None
RunFailsOrLacks s first f = IsFault s first f

-- and this with a chain
abbrev pub ChainFailsOrLacks : Sequence → (Descriptor → Sequence) → RingFault → Type 0
ChainFailsOrLacks ring table NoMemory = ring.wrong nothing_before (ring.at 0) ≡ None
ChainFailsOrLacks ring table f = ChainFails ring table f
