use Rattle.std.specs.Prelude.{◌≡◌, ◌+◌, ◌*◌, ◌≤◌, vec_len}
use Rattle.std.specs.Vec.{vec_capacity}
use Rattle.lock_scopes.specs.Ledgers.{most_commits}
use Rattle.workers.specs.Ledgers.{commits_in, weight_in}
use Rattle.workers.proofs.gathering.units_of.Given as goal

abbrev pub invariant-loop-lock : goal.invariant-loop-lock
invariant-loop-lock g l = record {
  acts : l.acts.amount ≡ l.fn.acts.amount + weight_in g.C.Weighing.weight l.units.items;
  commits : l.left.amount + commits_in l.units.items ≡ l.fn.left.amount + vec_len l.units * most_commits;
  parts_of_acts : l.acts.parts ≡ l.fn.acts.parts + vec_len l.units;
  parts : l.left.parts ≡ l.fn.left.parts + vec_len l.units;
  count : vec_len l.units + l.lock-iterator.rest.len ≡ vec_len l.fn.locks;
  room : vec_len l.fn.locks ≤ vec_capacity l.units;
}
