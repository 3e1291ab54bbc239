use Rattle.std.proofs.Common.{◌≡◌, List, ℕ, length}
use Rattle.device_steps.specs.Inner.Cursors.{NoDirectBelow, AtEach}
use Rattle.device_steps.proofs.device.Device.from_direct.Given as goal

abbrev pub invariant-loop-number : goal.invariant-loop-number
invariant-loop-number g l =
    record {
      same : l.self ≡ l.fn.self;
      some : (m : List ℕ) × g.M.Memory.may_be l.memory m;
      stays : (m : List ℕ) → g.M.Memory.may_be l.memory m → g.M.Memory.may_be l.fn.memory m;
      known : g.M.Memory.stored l.memory ≡ g.M.Memory.stored l.fn.memory;
      room : g.M.Memory.has_room l.memory 60;
      reading : g.M.Memory.is_open l.memory;
      size : g.M.Memory.extent l.memory ≡ g.M.Memory.extent l.fn.memory;
      below : AtEach g.M.Memory.shared (g.M.Memory.may_be l.memory) (NoDirectBelow l.number) l.fn.self;
      all : l.number-end ≡ length l.fn.self.queues;
    }
