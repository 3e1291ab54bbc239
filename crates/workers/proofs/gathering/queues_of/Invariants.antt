use Rattle.std.specs.Prelude.{◌≡◌, ◌+◌, ◌≤◌, vec_len}
use Rattle.std.specs.Vec.{vec_capacity}
use Rattle.workers.specs.Inner.Fetches.{AreGathered}
use Rattle.workers.proofs.gathering.queues_of.Given as goal

abbrev pub invariant-loop-lock : goal.invariant-loop-lock
invariant-loop-lock l = record {
  gathered : AreGathered l.queues.items l.fetched.items l.notes.items;
  count : vec_len l.queues + l.lock-iterator.rest.len ≡ vec_len l.fn.locks;
  same : vec_len l.fetched ≡ vec_len l.queues;
  room : vec_len l.fn.locks ≤ vec_capacity l.queues;
  room_fetched : vec_len l.fn.locks ≤ vec_capacity l.fetched;
}
