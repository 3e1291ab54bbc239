-- What the ring's own functions answer to one another.
use Rattle.std.specs.Prelude.{ℕ, ◌≡◌, List, length, None, Result, Ok, Err}
use Rattle.ring_core.specs.State.{RingState}
use Rattle.ring_core.specs.Walk.{nothing_before, Sequence}
use Rattle.ring_core.specs.Split.{in_table, split_wrong, split_path, SplitFails}
use Rattle.ring_core.specs.Offer.{SplitOffers, Found, Refused, BeginsInForm}
use Rattle.split_ring.specs.declared.ring.Candidate.{Candidate}
use Rattle.split_ring.specs.declared.walk.Table.{Table}
use Rattle.ring_core.specs.declared.layout.Features.{Features}
use Rattle.ring_core.specs.declared.layout.Layout.{Layout}
use Rattle.ring_core.specs.declared.layout.Form.TheVariants.{Split}
use Rattle.ring_core.specs.declared.fault.RingFault.{RingFault}
use Rattle.ring_core.specs.declared.fault.RingFault.TheVariants.{NoMemory}

-- a table's path from a head on
abbrev pub path_of : List ℕ → Table → ℕ → Sequence
path_of m table head = split_path table.features m table.addr table.entries head

-- that of the queue's own
abbrev pub queue_path : Features → List ℕ → Layout → ℕ → Sequence
queue_path features m l head = split_path features m l.desc l.size head

-- a walk finds this wrong with the chain at the head; memory is wanted once its first descriptor was found right
abbrev pub SplitFailsOrLacks : Features → List ℕ → Layout → ℕ → RingFault → Type 0
SplitFailsOrLacks features m l head NoMemory =
    split_wrong features (length m) l.size nothing_before (in_table m l.desc head) ≡ None
SplitFailsOrLacks features m l head f = SplitFails features m l.desc l.size head f

-- the offer of an unbroken queue; memory is wanted only where a chain begins
abbrev pub SplitFaultFound : RingState → List ℕ → RingFault → Type 0
SplitFaultFound s m NoMemory = BeginsInForm Split s m
SplitFaultFound s m f = SplitOffers s m (Refused f)

abbrev pub SplitFinds : RingState → List ℕ → Result Candidate RingFault → Type 0
SplitFinds s m (Ok c) = SplitOffers s m (Found c.head 1 c.draft)
SplitFinds s m (Err f) = SplitFaultFound s m f
