-- A job waits for its unit's disk, is woken, and is taken again.
use Rattle.std.specs.Prelude.{ℕ, ◌≡◌, ◌<◌, ◌++◌, List, [], ◌∷◌, drop}
use Rattle.unit_model.specs.Tasks.{Entry}
use Rattle.unit_model.specs.Jobs.{PlainJob}
use Rattle.unit_model.specs.Unit.{HasToWait}
use Rattle.device_model.specs.Parts.{Hand}
use Rattle.device_model.specs.World.{PlainWorld, change}
use Rattle.device_model.specs.Found.{HandAtUnit, HasHand}
use Rattle.device_model.specs.Changing.{with_hand}

-- the command of the job may run, and may have to wait at its unit, or its reply is withheld
pub record Defers (w : PlainWorld) (k : ℕ) (x : PlainJob) : Type 0 where
  pub holds : HandAtUnit w k (Hand.Taken x) x.unit
  pub entry : Entry
  pub waits : HasToWait holds.unit x.entry.ticket entry

-- the hand is free, and the job waits behind those that do
abbrev pub after_defer : ℕ → PlainJob → PlainWorld → PlainWorld
after_defer k x w =
    record w { seats = change (with_hand Hand.Empty) k w.seats; aside = w.aside ++ x ∷ [] }

-- a job waits
pub record Awakens (w : PlainWorld) : Type 0 where
  pub first : PlainJob
  pub rest : List PlainJob
  pub waits : w.aside ≡ first ∷ rest

-- each job that waits is to be tried again, behind those that are
abbrev pub waking : PlainWorld → List PlainJob
waking w = w.woken ++ w.aside

abbrev pub after_wake : PlainWorld → PlainWorld
after_wake w = record w { aside = []; woken = waking w }

-- the first job that is to be tried again, and a worker's seat whose hand is free
pub record Resumes (w : PlainWorld) (k : ℕ) (x : PlainJob) : Type 0 where
  pub worker : k < w.workers
  pub free : HasHand w k Hand.Empty
  pub rest : List PlainJob
  pub first : w.woken ≡ x ∷ rest

-- the job is in the hand of the seat
abbrev pub after_resume : ℕ → PlainJob → PlainWorld → PlainWorld
after_resume k x w =
    record w { seats = change (with_hand (Hand.Taken x)) k w.seats; woken = drop 1 w.woken }

-- a job is to be tried again, and a worker's hand is free
pub record MayResume (w : PlainWorld) (k : ℕ) : Type 0 where
  pub worker : k < w.workers
  pub free : HasHand w k Hand.Empty
  pub job : PlainJob
  pub rest : List PlainJob
  pub first : w.woken ≡ job ∷ rest
