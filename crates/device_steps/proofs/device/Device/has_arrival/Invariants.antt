use Rattle.std.proofs.Common.{◌≡◌, ℕ, Bool, List, length}
use Rattle.device_steps.specs.Apart.{standing}
use Rattle.device_steps.specs.Inner.Cursors.{NoEnterBelow}
use Rattle.device_steps.proofs.device.Device.has_arrival.Given as goal

abbrev pub invariant-loop-number : goal.invariant-loop-number
invariant-loop-number l =
    record {
      below : (shared : Bool) (m : List ℕ) → NoEnterBelow l.number (standing shared m l.fn.self);
      all : l.number-end ≡ length l.fn.self.queues;
    }
