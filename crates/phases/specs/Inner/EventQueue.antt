-- Rests on `specs/EventQueue.antt`; no promise rests on it.
use Rattle.std.specs.Prelude.{ℕ, List, [], ◌∷◌, ⊤}
use Rattle.ring_core.specs.State.{PlainChain}
use Rattle.virtqueue.specs.Queue.{BareQueue, MayComplete}

-- the oldest buffer, if there is one, may be completed
abbrev pub MayRaise : List PlainChain → BareQueue → List ℕ → Type 0
MayRaise [] q m = ⊤
MayRaise (c ∷ more) q m = MayComplete q m c
