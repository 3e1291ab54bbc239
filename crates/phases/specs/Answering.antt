-- What the phases do that complete a chain.
use Rattle.std.specs.Prelude.{ℕ, ◌≡◌, Bool, true, false, List}
use Rattle.device_model.specs.Parts.{Hand, as_left}
use Rattle.device_model.specs.Transitions.{Transition}
use Rattle.virtqueue.specs.Queue.{BareQueue}
use Rattle.phases.specs.DoingQueue.{AtQueue}
use Rattle.phases.specs.Direct.{decided_writes, StaysQueue, LetsGo}

-- Answer: the job in the hand is answered and its task is to
-- leave; or, where the queue doesn't own the job's chain, the
-- chain is let go of; or, where nothing is to be answered, all
-- stays as it was
abbrev pub Answers : Hand → BareQueue → List ℕ → Bool → BareQueue → List ℕ → Hand → Type 0
Answers (Hand.Done x o) q m true q' m' h' =
    ((k : ℕ) → AtQueue (Transition.Answer k x o (as_left m (decided_writes q.ring x.chain o))) q m q' m')
    × (h' ≡ Hand.Answered x.unit x.chain.ticket)
Answers (Hand.Done x o) q m false q' m' h' = LetsGo q m x.chain q' m' × (h' ≡ Hand.Empty)
Answers h q m true q' m' h' = ⊥
Answers h q m false q' m' h' = StaysQueue q q' m m' × (h' ≡ h)
