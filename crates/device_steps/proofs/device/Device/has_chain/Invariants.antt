use Rattle.std.proofs.Common.{◌≡◌, ◌-◌, List, ℕ, length}
use Rattle.device_steps.specs.Inner.Cursors.{NoFetchBelow, AtEach}
use Rattle.device_steps.specs.Settling.{asks}
use Rattle.device_steps.proofs.device.Device.has_chain.Given as goal

abbrev pub invariant-loop-number : goal.invariant-loop-number
invariant-loop-number g l =
    record {
      stays : (m : List ℕ) → g.M.Memory.may_be l.memory m → g.M.Memory.may_be l.fn.memory m;
      known : g.M.Memory.stored l.memory ≡ g.M.Memory.stored l.fn.memory;
      room : g.M.Memory.has_room l.memory (20 - l.number);
      reading : g.M.Memory.is_open l.memory;
      size : g.M.Memory.extent l.memory ≡ g.M.Memory.extent l.fn.memory;
      below : AtEach g.M.Memory.shared (g.M.Memory.may_be l.memory) (NoFetchBelow (asks l.queues) l.number) l.fn.self;
      all : l.number-end ≡ length l.fn.self.queues;
    }
