use Rattle.std.proofs.Common.{◌≡◌, ◌+◌, length}
use Rattle.handoff.proofs.Loops.{Follows, Known}
use Rattle.handoff.proofs.queue.Handoff.learn.Given as goal

abbrev pub invariant-loop-chief : goal.invariant-loop-chief
invariant-loop-chief l = record {
  count : l.at + l.chief-iterator.rest.len ≡ length l.fn.chiefs.items;
  rest : Follows l.fn.chiefs.items l.at l.chief-iterator.rest.items;
  known : Known l.fn.chiefs.items l.at;
}
