-- Room to keep more reads.
use Rattle.std.proofs.Common.{◌≡◌, ℕ}
use Rattle.live_mem.specs.Room.{Holds}
use Rattle.live_mem.specs.declared.kept.Kept.{Kept}

-- what doesn't change what is kept leaves its room
pub same_room : (k k' : Kept) (n : ℕ) → k'.spans ≡ k.spans → Holds k n → Holds k' n
same_room k k' n same room = rw same room
