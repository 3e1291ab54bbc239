-- Rests on `specs/Sound.antt`; no promise rests on it.
use Rattle.std.specs.Prelude.{◌≡◌, ◌≤◌, ◌+◌, length}
use Rattle.device_model.specs.World.{PlainWorld, AreAddressed}
use Rattle.device_model.specs.Lawful.{AreNumbered}
use Rattle.device_model.specs.Standing.{AreOwned, AreAtWork, AreBehind, AreNamedThere, HaveRoom, FunctionIsThere, BuffersAreOutstanding}
use Rattle.device_steps.specs.Sound.{IsReached}

-- what a step rests on
pub record IsSound (w : PlainWorld) : Type 0 where
  pub owned : AreOwned w
  pub works : AreAtWork w
  pub behind : AreBehind w
  pub named : AreNamedThere w
  pub addressed : AreAddressed w
  pub room : HaveRoom w
  pub function : FunctionIsThere (length w.units) w.function
  pub numbered : AreNumbered w
  pub working : 1 ≤ w.workers
  pub seated : length w.seats ≡ w.workers + 1
  pub held : BuffersAreOutstanding w

-- of every device that some trace reached
abbrev pub AreSound : Type 0
AreSound = (w : PlainWorld) → IsReached w → IsSound w
