use Rattle.std.proofs.Common.{◌≡◌, ◌+◌, length}
use Rattle.handoff.proofs.Loops.{Taking}
use Rattle.handoff.proofs.queue.Handoff.absorb.Given as goal

abbrev pub invariant-loop-end : goal.invariant-loop-end
invariant-loop-end l = record {
  taking : Taking l.self.queues l.fn.chiefs.items l.fn.ends.items l.chiefs.items l.at l.end-iterator.rest.items;
  count : l.at + l.end-iterator.rest.len ≡ length l.fn.ends.items;
}
