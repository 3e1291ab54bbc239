use Rattle.std.proofs.Common.{ℕ, ◌≤◌, ◌^◌, refl, subst}
use Rattle.lock_scopes.proofs.locked.LockedQueuesQueueLender.memory.Goals as goal

-- what the closure did to the memory and to the value that were lent to it
pub returns-clause-did : goal.returns-clause-did
returns-clause-did g c = (
  _,
  _,
  subst (λ (n : ℕ). n ≤ 2 ^ 28) c.size-before.ensures.size c.size-before.ensures.bounded,
  record { first = _; second = _; first_shows = refl; second_shows = refl; first_left = _; second_left = _; met = c.phase-answer.ensures; first_leaves = refl; second_leaves = refl },
  (subst (λ (n : ℕ). n ≤ 2 ^ 28) c.size-behind.ensures.size c.size-behind.ensures.bounded, refl),
)
