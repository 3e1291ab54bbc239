use Rattle.std.proofs.Common.{◌≡◌, ◌<◌, ◌≤◌, ℕ, length, Some}
use Rattle.std.specs.Prelude.{slice_get}
use Rattle.std.specs.Vec.{vec_capacity}
use Rattle.ring_core.specs.State.{features_of}
use Rattle.ring_core.specs.declared.layout.Layout.{Layout}
use Rattle.virtqueue.specs.Queue.{opening_queue}
use Rattle.device_opening.proofs.opening.open_queues.Given as goal

abbrev pub invariant-loop-number : goal.invariant-loop-number
invariant-loop-number g l =
    record {
      count : length l.queues.items ≡ l.number;
      room : length l.layouts ≤ vec_capacity l.queues;
      each : (k : ℕ) (p : Layout) → k < l.number → slice_get l.layouts k ≡ Some p
          → (b : g.row.B.Denot) × (slice_get l.queues.items k ≡ Some b)
          × goal.F-post g l.keep (opening_queue l.form (g.M.Memory.extent l.memory) k p (features_of l.features)) b;
    }
