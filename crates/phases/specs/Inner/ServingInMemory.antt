-- What is done of a request at once, in a memory that others may write too, in which these writes were stored: found, left and
-- seen as in InMemory.
use Rattle.std.specs.Prelude.{ℕ, ◌≡◌, Bool, true, List, [], ◌∷◌}
use Rattle.ring_core.specs.Writes.{Write}
use Rattle.unit_model.specs.Jobs.{PlainJob, Jobs}
use Rattle.unit_model.specs.Unit.{PlainUnit}
use Rattle.device_model.specs.Parts.{Outcome, Slot, Hand}
use Rattle.virtqueue.specs.Queue.{BareQueue}
use Rattle.phases.specs.DoingUnit.{with_more}
use Rattle.phases.specs.Direct.{decided_writes}
use Rattle.phases.specs.Units.{EntersAs, Commits, Leaves}
use Rattle.phases.specs.Inner.InMemory.{AnswersIn, StaysQueueIn}
use Rattle.phases.specs.Inner.Serving.{HandsOn}
use Rattle.phases.specs.declared.serving.Brought.{Brought}
use Rattle.phases.specs.declared.serving.Brought.TheVariants as brought

-- the task enters, and nothing blocks it; it is committed, answered, and leaves, or isn't known there any more
pub record ServesAtOnceIn (shared : Bool) (stored : List Write → Type 0) (x : PlainJob) (u : PlainUnit) (q : BareQueue)
    (found : List ℕ) (out : Jobs) (gone : Bool) (u' : PlainUnit) (q' : BareQueue) (left seen : List ℕ) (out' : Jobs)
    : Type 0 where
  pub entered : PlainUnit
  pub committed : PlainUnit
  pub outcome : Outcome
  pub enters : (list : Jobs) → EntersAs x u list entered Slot.Empty (with_more (x ∷ []) list)
  pub commits : Commits (Hand.Taken x) entered true committed (Hand.Done x outcome)
  pub answers : AnswersIn shared (Hand.Done x outcome) q found true q' left seen (Hand.Answered x.unit x.chain.ticket)
  pub stores : stored (decided_writes q.ring x.chain outcome)
  pub leaves : Leaves (Hand.Answered x.unit x.chain.ticket) committed out gone u' Hand.Empty out'

-- nothing but the unit, the slot and the list changed, nothing was stored, and memory is seen as it was found: it only
-- entered, or was refused
pub record OnlyEntersIn (stored : List Write → Type 0) (x : PlainJob) (u : PlainUnit) (q : BareQueue) (found : List ℕ)
    (out : Jobs) (u' : PlainUnit) (q' : BareQueue) (left seen : List ℕ) (s' : Slot) (out' : Jobs) : Type 0 where
  pub more : List PlainJob
  pub waits : HandsOn x u more
  pub enters : (list : Jobs) → EntersAs x u list u' s' (with_more more list)
  pub at_queue : StaysQueueIn q q' found left seen
  pub stores : stored []
  pub jobs : out' ≡ with_more more out

-- a request that is brought to its unit
abbrev pub ServesIn : Bool → (List Write → Type 0) → PlainJob → PlainUnit → BareQueue → List ℕ → Slot → Jobs → Brought → PlainUnit → BareQueue
    → List ℕ → List ℕ → Slot → Jobs → Type 0
ServesIn shared stored x u q found s out (brought.Answered gone) u' q' left seen s' out' =
    ServesAtOnceIn shared stored x u q found out gone u' q' left seen out' × (s' ≡ s)
ServesIn shared stored x u q found s out brought.Waits u' q' left seen s' out' =
    OnlyEntersIn stored x u q found out u' q' left seen s' out'
