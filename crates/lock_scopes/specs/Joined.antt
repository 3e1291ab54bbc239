-- What two or three phases do that share one hold: each of them its own part, with nothing between.
use Rattle.std.specs.Prelude.{ℕ, ◌≡◌, Bool, true, false, List, [], ◌∷◌, length, Option, Some, is_some, IfSome, Result, Ok, Err}
use Rattle.foundation.specs.declared.NoMemory.{NoMemory}
use Rattle.ring_core.specs.declared.log.Ticket.{Ticket}
use Rattle.request_intake.specs.Inventory.{PlainInventory}
use Rattle.unit_model.specs.Jobs.{PlainJob, Jobs}
use Rattle.unit_model.specs.Unit.{PlainUnit, is_backed}
use Rattle.virtqueue.specs.Queue.{BareQueue}
use Rattle.device_model.specs.Parts.{Slot, Hand}
use Rattle.phases.specs.declared.hand.Hand as declared_hand
use Rattle.phases.specs.Queue.{with_slot}
use Rattle.phases.specs.Parts.{hand_of, committing_unit}
use Rattle.phases.specs.Fetching.{FetchesRequest}
use Rattle.phases.specs.Answering.{Answers}
use Rattle.phases.specs.Direct.{Directs}
use Rattle.phases.specs.Units.{Enters, Commits, Leaves}
use Rattle.phases.specs.Giving.{KeepsOutcome}
use Rattle.lock_scopes.specs.Fetches.{ticket_in}
use Rattle.lock_scopes.specs.declared.joined_unit.NextJob.{NextJob}
use Rattle.lock_scopes.specs.declared.joined_unit.NextJob.TheVariants.{Listed, Taken, Committed}

-- own: a queue's next chain comes into its empty slot; or memory was refused, for the chain or for its note, and nothing
-- changed
abbrev pub Fills : PlainInventory → List ℕ → BareQueue → Result Bool NoMemory → BareQueue → Slot → Type 0
Fills inventory m q (Ok did) q' s' = FetchesRequest inventory m (with_slot Slot.Empty q) (Ok did) (with_slot s' q')
Fills inventory m q (Err refused) q' s' = (q' ≡ q) × (s' ≡ Slot.Empty)

-- own: so it is taken, and answered at once where its answer was decided: then its ticket is told
pub record Takes (inventory : PlainInventory) (q : BareQueue) (m : List ℕ) (fetched : Result Bool NoMemory)
    (told : Option Ticket) (q' : BareQueue) (m' : List ℕ) (s' : Slot) : Type 0 where
  pub between : BareQueue
  pub left : Slot
  pub fetches : Fills inventory m q fetched between left
  pub directs : Directs left between m (is_some told) q' m' s'
  pub of_chain : IfSome told (λ t. ticket_in left ≡ Some t)

-- own: the job in the hand is answered, and then the queue's next chain is taken
pub record AnswersTakes (inventory : PlainInventory) (h : Hand) (q : BareQueue) (m : List ℕ) (answered : Bool)
    (fetched : Result Bool NoMemory) (told : Option Ticket) (q' : BareQueue) (m' : List ℕ) (h' : Hand) (s' : Slot) : Type 0 where
  pub queue : BareQueue
  pub memory : List ℕ
  pub answers : Answers h q m answered queue memory h'
  pub takes : Takes inventory queue memory fetched told q' m' s'

-- own: the task in the hand leaves, and then the request that arrived enters
pub record LeavesEnters (h : Hand) (s : Slot) (u : PlainUnit) (out : Jobs)
    (u' : PlainUnit) (h' : Hand) (s' : Slot) (out' : Jobs) : Type 0 where
  pub between : PlainUnit
  pub listed : Jobs
  pub left : Bool
  pub entered : Bool
  pub leaves : Leaves h u out left between h' listed
  pub enters : Enters s between listed entered u' s' out'

-- own: the only job that may run comes from the list into the hand, which was free
pub record TakesOnly (h : declared_hand.Hand) (out : Jobs) (h' : declared_hand.Hand) (out' : Jobs) : Type 0 where
  pub job : PlainJob
  pub free : hand_of h ≡ Hand.Empty
  pub only : out.jobs ≡ job ∷ []
  pub takes : hand_of h' ≡ Hand.Taken job
  pub rest : out' ≡ record out { jobs = [] }

-- own: so it is taken, and then committed at its own unit, which stands at this index
pub record TakesCommits (at : ℕ) (h : declared_hand.Hand) (u : PlainUnit) (out : Jobs)
    (u' : PlainUnit) (h' : declared_hand.Hand) (out' : Jobs) : Type 0 where
  pub between : declared_hand.Hand
  pub takes : TakesOnly h out between out'
  pub own_unit : committing_unit (hand_of between) ≡ Some at
  pub commits : Commits (hand_of between) u true u' (hand_of h')
  pub keeps : is_backed u ≡ false → KeepsOutcome between u u' h'

-- own: what becomes of the jobs that may run, behind an Enter at the unit of this index: they stay in the list, unless
-- there is one alone and the hand is free. One that is taken and not committed changes no unit whose disk isn't backed
abbrev pub RunsNext : ℕ → declared_hand.Hand → PlainUnit → Jobs → NextJob → PlainUnit → declared_hand.Hand → Jobs → Type 0
RunsNext at h u out Listed u' h' out' =
    (hand_of h ≡ Hand.Empty → length out.jobs ≡ 1 → ⊥) × (u' ≡ u) × (h' ≡ h) × (out' ≡ out)
RunsNext at h u out Taken u' h' out' = (is_backed u ≡ false → u' ≡ u) × TakesOnly h out h' out'
RunsNext at h u out Committed u' h' out' = TakesCommits at h u out u' h' out'

-- own: at the unit of an index the task in the hand leaves, the request that arrived enters, and then the only job that
-- may run is run
pub record LeavesEntersRuns (at : ℕ) (h : declared_hand.Hand) (s : Slot) (u : PlainUnit) (out : Jobs) (next : NextJob)
    (u' : PlainUnit) (h' : declared_hand.Hand) (s' : Slot) (out' : Jobs) : Type 0 where
  pub between : PlainUnit
  pub hand : declared_hand.Hand
  pub listed : Jobs
  pub turns : LeavesEnters (hand_of h) s u out between (hand_of hand) s' listed
  pub runs : RunsNext at hand between listed next u' h' out'
