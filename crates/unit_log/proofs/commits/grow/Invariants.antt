use Rattle.std.proofs.Common.{◌≡◌, ◌≤◌, ℕ, length}
use Rattle.unit_log.specs.Inner.Runs.{runs_of, tables_of}
use Rattle.unit_log.proofs.commits.grow.Given as goal

abbrev pub invariant-loop : goal.invariant-loop
invariant-loop l =
    record {
      same : (q : ℕ) → runs_of q (tables_of l.queues.items) ≡ runs_of q (tables_of l.initial.queues.items);
      counted : l.counter ≡ length l.queues.items;
      few : length l.initial.queues.items ≤ 65536 → l.wanted ≤ 65536 → length l.queues.items ≤ 65536;
    }
