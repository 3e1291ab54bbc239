use Rattle.std.proofs.Common.{◌≡◌, ℕ, [], length}
use Rattle.device_model.specs.Parts.{Hand}
use Rattle.device_model.specs.World.{Everywhere}
use Rattle.device_steps.specs.Kept.{KeptSeat}
use Rattle.device_steps.proofs.opening.open_seats.Given as goal

abbrev pub invariant-loop-number : goal.invariant-loop-number
invariant-loop-number l =
    record {
      count : length l.seats.items ≡ l._number;
      each :
          Everywhere (λ (k : ℕ) (s : KeptSeat). s ≡ record { hand = Hand.Empty; jobs = []; limit = l.limit })
          l.seats.items;
    }
