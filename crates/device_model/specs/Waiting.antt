-- What becomes of jobs that wait for their unit's disk.
use Rattle.std.specs.Prelude.{◌≡◌, List, [], ◌∷◌}
use Rattle.unit_model.specs.Jobs.{PlainJob}
use Rattle.device_model.specs.World.{PlainWorld}
use Rattle.device_model.specs.Transitions.{Transition}

-- the job that a transition puts aside, and the one that it takes again
abbrev pub deferred : Transition → List PlainJob
deferred (Transition.Defer k x) = x ∷ []
deferred (Transition.Withhold k x r) = x ∷ []
deferred d = []

abbrev pub resumed : Transition → List PlainJob
resumed (Transition.Resume k x) = x ∷ []
resumed d = []

-- what a guest may see of the device is as it was: memory and queues, units with their histories, the function, events,
-- and what decides which of these the guest is told
pub record LooksAlike (old new : PlainWorld) : Type 0 where
  pub memory : new.memory ≡ old.memory
  pub queues : new.queues ≡ old.queues
  pub units : new.units ≡ old.units
  pub function : new.function ≡ old.function
  pub buffers : new.buffers ≡ old.buffers
  pub missed : new.missed ≡ old.missed
  pub waiting : new.waiting ≡ old.waiting
  pub tells : new.tells_changes ≡ old.tells_changes
