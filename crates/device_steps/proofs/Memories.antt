-- A transition leaves each ring the memory that it was made with.
use Rattle.std.proofs.Common.{◌≡◌, ℕ, List, refl}
use Rattle.device_model.specs.World.{PlainQueue}
use Rattle.device_model.specs.Transitions.{Transition}
use Rattle.device_model.specs.Phases.{queue_after}

-- what a transition leaves of a queue has the memory of before
pub keeps_memory : (d : Transition) (m : List ℕ) (q : PlainQueue) → (queue_after d m q).ring.memory ≡ q.ring.memory
keeps_memory (Transition.Arrive f x) m q = refl
keeps_memory (Transition.Refuse f a) m q = refl
keeps_memory (Transition.Open f g) m q = refl
keeps_memory (Transition.Hold f) m q = refl
keeps_memory (Transition.UseBuffer f xs) m q = refl
keeps_memory (Transition.Break i n) m q = refl
keeps_memory (Transition.Direct c o xs) m q = refl
keeps_memory (Transition.Answer k x o xs) m q = refl
keeps_memory (Transition.Respond c r xs) m q = refl
keeps_memory (Transition.Give e c xs) m q = refl
keeps_memory d m q = refl
