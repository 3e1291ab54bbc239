-- What is lawful in every world that is reached, and what stays as it was at the opening.
use Rattle.std.specs.Prelude.{ℕ, ◌≡◌, List, [], ◌∷◌, length, ⊤}
use Rattle.guest_mem.specs.Memory.{LiesIn}
use Rattle.ring_core.specs.State.{tickets}
use Rattle.ring_core.specs.Writes.{Write}
use Rattle.unit_model.specs.Unit.{IsUnit}
use Rattle.device_model.specs.World.{PlainQueue, PlainWorld, Everywhere}
use Rattle.device_model.specs.Happens.{Occurrence}

-- the queue stands at its own number, and the chains that it accepted are numbered 0, 1, 2 and so on
pub record IsNumbered (i : ℕ) (q : PlainQueue) : Type 0 where
  pub queue : q.ring.queue ≡ i
  pub accepted : q.ring.log.accepted ≡ tickets i (length q.ring.log.accepted)

abbrev pub AreNumbered : PlainWorld → Type 0
AreNumbered w = Everywhere IsNumbered w.queues

-- the history of each unit is lawful, and it holds the jobs of its parked tasks and no others
abbrev pub AreUnits : PlainWorld → Type 0
AreUnits w = Everywhere (λ i u. IsUnit u) w.units

-- the parts of the device are those that it opened with
pub record KeepsParts (old new : PlainWorld) : Type 0 where
  pub shared : new.shared ≡ old.shared
  pub inventory : new.inventory ≡ old.inventory
  pub workers : new.workers ≡ old.workers
  pub limit : new.limit ≡ old.limit
  pub queues : length new.queues ≡ length old.queues
  pub units : length new.units ≡ length old.units
  pub seats : length new.seats ≡ length old.seats
  pub lists : length new.handed_off ≡ length old.handed_off

-- each write lies in a memory of this size
abbrev pub LieIn : ℕ → List Write → Type 0
LieIn size [] = ⊤
LieIn size (x ∷ xs) = LiesIn size x.addr (length x.bytes) × LieIn size xs

-- and so does each of a trace
abbrev pub AllLieIn : ℕ → List Occurrence → Type 0
AllLieIn size [] = ⊤
AllLieIn size (e ∷ past) = LieIn size e.action.writes × AllLieIn size past
