use Rattle.std.proofs.Common.{refl}
use Rattle.lock_scopes.proofs.Chains.{keeps_on}
use Rattle.lock_scopes.proofs.kept_queue.KeptQueue.run.Goals as goal

-- what the closure did to the four that were lent to it
pub returns : goal.returns
returns g c = (
  _,
  _,
  record { sound = c.log-before.ensures.sound; few = c.log-before.ensures.few },
  record { first = _; second = _; third = _; fourth = _; first_shows = refl; second_shows = refl; third_shows = refl; fourth_shows = refl; first_left = _; second_left = _; third_left = _; fourth_left = _; met = c.phase-answer.ensures; first_leaves = refl; second_leaves = refl; third_leaves = refl; fourth_leaves = refl },
  record { sound = c.log-behind.ensures.sound; few = c.log-behind.ensures.few },
)

-- the closure takes no chain of a request queue
pub invariant_of-self : goal.invariant_of-self
invariant_of-self g c =
    record { keeps = keeps_on _ _ _ _ c.args.self.now.keeps (c.requires.takes_none _ _ _ _ _ _ _ _ _ (record { first = _; second = _; third = _; fourth = _; first_shows = refl; second_shows = refl; third_shows = refl; fourth_shows = refl; first_left = _; second_left = _; third_left = _; fourth_left = _; met = c.phase-answer.ensures; first_leaves = refl; second_leaves = refl; third_leaves = refl; fourth_leaves = refl })); noted = c.args.self.now.noted }
