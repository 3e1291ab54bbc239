use Rattle.std.proofs.Common.{◌≡◌, length}
use Rattle.device_steps.specs.Inner.Cursors.{NoEnterBelow, AtEach}
use Rattle.device_steps.proofs.device.Device.from_enter.Given as goal

abbrev pub invariant-loop-number : goal.invariant-loop-number
invariant-loop-number g l =
    record {
      same : l.self ≡ l.fn.self;
      below : AtEach g.M.Memory.shared (g.M.Memory.may_be l.fn.memory) (NoEnterBelow l.number) l.fn.self;
      all : l.number-end ≡ length l.fn.self.queues;
    }
