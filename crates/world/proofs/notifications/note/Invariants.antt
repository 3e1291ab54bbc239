use Rattle.std.proofs.Common.{ℕ, ◌<◌, ◌≤◌, ◌≡◌, slice_index_or}
use Rattle.world.specs.Notifications.{notices_at}
use Rattle.world.proofs.notifications.note.Given as goal

-- those before this one were asked, and the others weren't yet
abbrev pub invariant-loop-number : goal.invariant-loop-number
invariant-loop-number l =
    ((i : ℕ) → i < l.number → slice_index_or l.asked i 0 ≡ notices_at l.bays i)
    × ((i : ℕ) → l.number ≤ i → slice_index_or l.asked i 0 ≡ slice_index_or l.initial.asked i 0)
