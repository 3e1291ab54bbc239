-- A hand-off, by the queues that it has.
use Rattle.std.specs.Prelude.{ℕ, List, map, length}
use Rattle.handoff.specs.Ends.{PlainLane}
use Rattle.handoff.specs.Seats.{Hub}

abbrev pub hub_of : ℕ → List PlainLane → Hub
hub_of capacity lanes =
    record { queues = map (λ (l : PlainLane). l.queue) lanes; capacity = capacity; seats = length lanes }
