-- What a look at a queue answers.
use Rattle.std.specs.Prelude.{ℕ, ◌≡◌, ◌⊎◌, List, None, IsSome, Result, Ok, Err}
use Rattle.ring_core.specs.State.{RingState, breaking}
use Rattle.ring_core.specs.Offer.{Offers, Nothing, Refused, MayLackMemory}
use Rattle.ring_core.specs.Fetch.{Takes}
use Rattle.ring_core.specs.declared.fault.RingFault.{RingFault}
use Rattle.foundation.specs.declared.NoMemory.{NoMemory}
use Rattle.virtqueue.specs.Queue.{BareQueue}
use Rattle.virtqueue.specs.declared.queue.Fetch.{Fetch}
use Rattle.virtqueue.specs.declared.queue.Fetch.TheVariants.{Idle, Broke, Got}

-- nothing is to be done: it is broken, or nothing is available
abbrev pub IsIdle : RingState → List ℕ → Type 0
IsIdle s m = IsSome s.broken ⊎ Offers s m Nothing

-- a fault of the guest breaks it now
pub record Breaks (old : BareQueue) (m : List ℕ) (new : BareQueue) : Type 0 where
  pub fault : RingFault
  pub whole : old.ring.broken ≡ None
  pub offered : Offers old.ring m (Refused fault)
  pub after : new ≡ record old { ring = breaking old.ring fault }

abbrev pub Looks : BareQueue → List ℕ → Result Fetch NoMemory → BareQueue → Type 0
Looks old m (Ok Idle) new = IsIdle old.ring m × (new ≡ old)
Looks old m (Ok Broke) new = Breaks old m new
Looks old m (Ok (Got f)) new = Takes old.ring m f.chain f.bytes.items new.ring × (new.notices ≡ old.notices)
Looks old m (Err e) new = MayLackMemory old.ring m × (new ≡ old)
