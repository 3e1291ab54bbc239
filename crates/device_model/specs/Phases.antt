-- What a transition asks of the unit, or of the queue with the memory, that one lock lends, and what it leaves there.
use Rattle.std.specs.Prelude.{ℕ, ◌≡◌, ◌≤◌, ◌⊎◌, ◌||◌, Bool, true, false, List, [], ◌∷◌, length, Some, None, slice_get, ⊤, Option}
use Rattle.guest_mem.specs.Memory.{LiesIn}
use Rattle.scsi_codec.specs.declared.event_queue.Event.{Event as EventRecord}
use Rattle.scsi_codec.specs.EventQueue.{event_bytes}
use Rattle.scsi_codec.specs.ControlQueue.{function_bytes}
use Rattle.ring_core.specs.State.{PlainChain}
use Rattle.ring_core.specs.Writes.{all_written}
use Rattle.ring_core.specs.Offer.{Offers, Refused}
use Rattle.ring_core.specs.Fetch.{Takes}
use Rattle.ring_core.specs.declared.log.Ticket.{Ticket}
use Rattle.request_intake.specs.Inventory.{PlainInventory}
use Rattle.request_intake.specs.declared.decision.Decision.TheVariants as decision
use Rattle.unit_model.specs.Tasks.{Entry, is_blocked, task_of}
use Rattle.unit_model.specs.Steps.{Step, alive, is_alive, next_number}
use Rattle.unit_model.specs.Marks.{mark_of}
use Rattle.unit_model.specs.Clearing.{is_clear}
use Rattle.unit_model.specs.Seen.{any_met}
use Rattle.unit_model.specs.Unit.{PlainUnit, after as stepped, parking, MayCommit, MayWithhold, MayConclude, HasToWait, MayDeal, dealing}
use Rattle.unit_model.specs.Asking.{IsNamed, IsMisdelivered, CannotCommit, IsNotWithheld}
use Rattle.task_mgmt.specs.Functions.{step_by, response_of}
use Rattle.task_mgmt.specs.declared.control.ControlDecision.TheVariants as managed
use Rattle.task_mgmt.specs.declared.kind.Kind.{Kind}
use Rattle.task_mgmt.specs.declared.kind.Kind.TheVariants.{Marking, Querying}
use Rattle.task_mgmt.specs.declared.function.Mark.{Mark as MarkAt}
use Rattle.device_model.specs.Parts.{PlainFetch, Outcome, IsSeen, Slot, Hand, lengths_of, request_of, bytes_of, answer_writes, is_short}
use Rattle.device_model.specs.World.{PlainQueue, Opened, PlainWorld, owner}
use Rattle.device_model.specs.Transitions.{Transition, action_of}
use Rattle.device_model.specs.Found.{SlotIs, HasSeat, HasHand, MayStep, MayYield, handed_out}
use Rattle.device_model.specs.Changing.{with_chain, arriving, taking, broken_by, completing, directing, spending}
use Rattle.device_model.specs.Event.Fetch.{IsOpenTo, DecidesRequest, DecidesControl, IsDirect, spent_bytes}
use Rattle.device_model.specs.Event.HandOff.{Puts, KeepsJob, TakesJob}
use Rattle.device_model.specs.Event.Mark.{MarksRefused}
use Rattle.device_model.specs.Event.Check.{IsWaiting}
use Rattle.device_model.specs.Event.Hard.{hard_code}
use Rattle.device_model.specs.Event.Raise.{Misses}
use Rattle.device_model.specs.Event.Wake.{Awakens, Resumes}

-- of that number, if there is one
abbrev pub Under : Option ℕ → (ℕ → Type 0) → Type 0
Under None P = ⊤
Under (Some n) P = P n

-- the unit whose lock the transition takes; a mark that is refused memory leaves no trace of its unit
abbrev pub unit_of : Transition → Option ℕ
unit_of (Transition.Run x) = Some x.unit
unit_of (Transition.Park x) = Some x.unit
unit_of (Transition.EnterFull x) = Some x.unit
unit_of (Transition.EnterBusy x) = Some x.unit
unit_of (Transition.Commit k x r) = Some x.unit
unit_of (Transition.CommitBusy k x) = Some x.unit
unit_of (Transition.CommitAborted k x why) = Some x.unit
unit_of (Transition.Defer k x) = Some x.unit
unit_of (Transition.Withhold k x r) = Some x.unit
unit_of (Transition.Conclude k x r) = Some x.unit
unit_of (Transition.Leave k unit_index t jobs) = Some unit_index
unit_of (Transition.Mark t p m jobs) = Some p.unit
unit_of (Transition.Ask t unit_index rule b) = Some unit_index
unit_of (Transition.Check t p) = Some p.unit
unit_of (Transition.Hard p jobs) = Some p.unit
unit_of (Transition.Resize unit_index blocks) = Some unit_index
unit_of (Transition.Deal unit_index x) = Some unit_index
unit_of d = None

-- what it asks of the unit
abbrev pub AsksUnit : Transition → PlainUnit → Type 0
AsksUnit (Transition.Run x) u =
    IsNamed x u × MayStep u (Step.Enter x.entry)
    × (is_blocked x.entry (alive (Step.Enter x.entry ∷ u.steps)) ≡ false)
AsksUnit (Transition.Park x) u =
    IsNamed x u × MayStep u (Step.Enter x.entry)
    × (is_blocked x.entry (alive (Step.Enter x.entry ∷ u.steps)) ≡ true)
AsksUnit (Transition.EnterFull x) u = IsNamed x u × MayStep u (Step.Full x.entry.ticket)
AsksUnit (Transition.EnterBusy x) u = IsNamed x u × (next_number x.entry.ticket.queue u.steps ≤ x.entry.ticket.number)
AsksUnit (Transition.EnterStale x) u = IsMisdelivered x u
AsksUnit (Transition.Commit k x r) u = MayCommit u x.entry.ticket r
AsksUnit (Transition.CommitBusy k x) u = MayStep u (Step.Busy x.entry.ticket) × MayYield u x.entry.command
AsksUnit (Transition.CommitAborted k x why) u =
    (is_alive x.entry.ticket u.steps ≡ true) × (mark_of x.entry.ticket u.steps ≡ Some why)
AsksUnit (Transition.CommitUnknown k x) u =
    CannotCommit (task_of x.entry.ticket (alive u.steps)) x u.steps × IsNotWithheld x u
AsksUnit (Transition.Defer k x) u = (e : Entry) × HasToWait u x.entry.ticket e
AsksUnit (Transition.Withhold k x r) u = MayWithhold u x.entry.ticket r
AsksUnit (Transition.Conclude k x r) u = MayConclude u x.entry.ticket r
AsksUnit (Transition.Leave k unit_index t jobs) u = MayStep u (Step.Leave t) × (jobs ≡ handed_out u (Step.Leave t))
AsksUnit (Transition.Mark t p m jobs) u = (p.place ≡ length u.steps) × (jobs ≡ handed_out u (step_by m))
AsksUnit (Transition.Ask t unit_index rule b) u = b ≡ any_met rule (alive u.steps)
AsksUnit (Transition.Check t p) u = is_clear p.place u.steps ≡ true
AsksUnit (Transition.Hard p jobs) u = (p.place ≡ length u.steps) × (jobs ≡ handed_out u (Step.Reset hard_code))
AsksUnit (Transition.Resize unit_index blocks) u = MayStep u (Step.Resize blocks)
AsksUnit (Transition.Deal unit_index x) u = MayDeal u x
AsksUnit d u = ⊥

-- and what it leaves
abbrev pub unit_after : Transition → PlainUnit → PlainUnit
unit_after (Transition.Run x) u = stepped (Step.Enter x.entry) u
unit_after (Transition.Park x) u = parking x u
unit_after (Transition.EnterFull x) u = stepped (Step.Full x.entry.ticket) u
unit_after (Transition.Commit k x r) u = stepped (Step.Commit x.entry.ticket r) u
unit_after (Transition.CommitBusy k x) u = stepped (Step.Busy x.entry.ticket) u
unit_after (Transition.Withhold k x r) u = stepped (Step.Commit x.entry.ticket r) u
unit_after (Transition.Leave k unit_index t jobs) u = stepped (Step.Leave t) u
unit_after (Transition.Mark t p m jobs) u = stepped (step_by m) u
unit_after (Transition.Hard p jobs) u = stepped (Step.Reset hard_code) u
unit_after (Transition.Resize unit_index blocks) u = stepped (Step.Resize blocks) u
unit_after (Transition.Deal unit_index x) u = dealing x u
unit_after d u = u

-- the queue whose lock the transition takes, with the memory's inside it
abbrev pub queue_of : Transition → Option ℕ
queue_of (Transition.Arrive f x) = Some f.chain.ticket.queue
queue_of (Transition.Refuse f a) = Some f.chain.ticket.queue
queue_of (Transition.Open f g) = Some f.chain.ticket.queue
queue_of (Transition.Hold f) = Some f.chain.ticket.queue
queue_of (Transition.UseBuffer f xs) = Some f.chain.ticket.queue
queue_of (Transition.Break q n) = Some q
queue_of (Transition.Direct c o xs) = Some c.ticket.queue
queue_of (Transition.Answer k x o xs) = Some x.chain.ticket.queue
queue_of (Transition.Respond c r xs) = Some c.ticket.queue
queue_of (Transition.Give e c xs) = Some c.ticket.queue
queue_of d = None

-- the ring gives the chain with these bytes
abbrev pub GivesChain : PlainQueue → List ℕ → PlainFetch → Type 0
GivesChain q m f = Takes q.ring m f.chain f.bytes (with_chain f.chain q.ring)

-- what it asks of the queue and of memory, which is shared or not, where these units are and an event was missed or not
abbrev pub AsksQueue : Bool → PlainInventory → Bool → Transition → PlainQueue → List ℕ → Type 0
AsksQueue shared inventory missed (Transition.Arrive f x) q m =
    GivesChain q m f × (x.chain ≡ f.chain) × (x.entry.ticket ≡ f.chain.ticket)
    × DecidesRequest inventory f (decision.Enter x.unit (request_of x.entry))
    × (slice_get inventory.addresses x.unit ≡ Some x.address)
AsksQueue shared inventory missed (Transition.Refuse f a) q m = GivesChain q m f × IsDirect inventory f.chain.ticket.queue f a
AsksQueue shared inventory missed (Transition.Open f g) q m = GivesChain q m f × DecidesControl inventory f (managed.Opens g)
AsksQueue shared inventory missed (Transition.Hold f) q m = GivesChain q m f × ((is_short f.chain || missed) ≡ false)
AsksQueue shared inventory missed (Transition.UseBuffer f xs) q m =
    GivesChain q m f × ((is_short f.chain || missed) ≡ true)
    × (xs.writes ≡ answer_writes (with_chain f.chain q.ring) f.chain (spent_bytes f.chain))
    × IsSeen shared (all_written m xs.writes) xs.seen
AsksQueue shared inventory missed (Transition.Break i n) q m = (q.ring.broken ≡ None) × Offers q.ring m (Refused n)
AsksQueue shared inventory missed (Transition.Direct c o xs) q m =
    (xs.writes ≡ answer_writes q.ring c (bytes_of (lengths_of c) o)) × IsSeen shared (all_written m xs.writes) xs.seen
AsksQueue shared inventory missed (Transition.Answer k x o xs) q m =
    (xs.writes ≡ answer_writes q.ring x.chain (bytes_of (lengths_of x.chain) o))
    × IsSeen shared (all_written m xs.writes) xs.seen
AsksQueue shared inventory missed (Transition.Respond c r xs) q m =
    (xs.writes ≡ answer_writes q.ring c (function_bytes r)) × IsSeen shared (all_written m xs.writes) xs.seen
AsksQueue shared inventory missed (Transition.Give e c xs) q m =
    (xs.writes ≡ answer_writes q.ring c (event_bytes e)) × IsSeen shared (all_written m xs.writes) xs.seen
AsksQueue shared inventory missed d q m = ⊥

-- and what it leaves of the queue, and of memory
abbrev pub queue_after : Transition → List ℕ → PlainQueue → PlainQueue
queue_after (Transition.Arrive f x) m q = arriving f.chain (Slot.Arrived x) q
queue_after (Transition.Refuse f a) m q = arriving f.chain (Slot.Direct f.chain (Outcome.Decided a)) q
queue_after (Transition.Open f g) m q = taking f.chain q
queue_after (Transition.Hold f) m q = taking f.chain q
queue_after (Transition.UseBuffer f xs) m q = spending xs.seen f.chain q
queue_after (Transition.Break i n) m q = broken_by n q
queue_after (Transition.Direct c o xs) m q = directing xs.seen c q
queue_after (Transition.Answer k x o xs) m q = completing xs.seen x.chain q
queue_after (Transition.Respond c r xs) m q = completing xs.seen c q
queue_after (Transition.Give e c xs) m q = completing xs.seen c q
queue_after d m q = q

abbrev pub bytes_after : Transition → List ℕ → List ℕ
bytes_after d m = all_written m (action_of d).writes

-- What stands outside of the lent part

-- a function with this unit left to mark first
pub record VisitsNext (w : PlainWorld) (t : Ticket) (unit_index : ℕ) (kind : Kind) : Type 0 where
  pub opened : Opened
  pub there : w.function ≡ Some opened
  pub of : opened.chain.ticket ≡ t
  pub does : opened.function.kind ≡ kind
  pub later : List ℕ
  pub left : opened.function.left ≡ unit_index ∷ later

pub record IsPort (w : PlainWorld) (e : EventRecord) (c : PlainChain) : Type 0 where
  pub later : List EventRecord
  pub waits : w.waiting ≡ e ∷ later
  pub more : List PlainChain
  pub held : w.buffers ≡ c ∷ more

-- a function whose marks are all clear, and its response
pub record IsDone (w : PlainWorld) (c : PlainChain) : Type 0 where
  pub waiting : IsWaiting w c.ticket []
  pub chain : waiting.opened.chain ≡ c

abbrev pub StandsFor : Transition → PlainWorld → Type 0
StandsFor (Transition.Poke x) w = LiesIn (length w.memory) x.addr (length x.bytes)
StandsFor (Transition.Arrive f x) w = SlotIs w f.chain.ticket.queue Slot.Empty × (2 ≤ f.chain.ticket.queue)
StandsFor (Transition.Refuse f a) w =
    SlotIs w f.chain.ticket.queue Slot.Empty × IsOpenTo w f.chain.ticket.queue
    × ((f.chain.ticket.queue ≡ 0) ⊎ (2 ≤ f.chain.ticket.queue))
StandsFor (Transition.Open f g) w =
    SlotIs w f.chain.ticket.queue Slot.Empty × (w.function ≡ None) × (f.chain.ticket.queue ≡ 0)
StandsFor (Transition.Hold f) w = SlotIs w f.chain.ticket.queue Slot.Empty × (f.chain.ticket.queue ≡ 1)
StandsFor (Transition.UseBuffer f xs) w = SlotIs w f.chain.ticket.queue Slot.Empty × (f.chain.ticket.queue ≡ 1)
StandsFor (Transition.Break i n) w = SlotIs w i Slot.Empty × IsOpenTo w i
StandsFor (Transition.Run x) w =
    SlotIs w x.chain.ticket.queue (Slot.Arrived x) × HasSeat w (owner w.workers x.chain.ticket.queue)
StandsFor (Transition.Park x) w =
    SlotIs w x.chain.ticket.queue (Slot.Arrived x) × HasSeat w (owner w.workers x.chain.ticket.queue)
StandsFor (Transition.EnterFull x) w =
    SlotIs w x.chain.ticket.queue (Slot.Arrived x) × HasSeat w (owner w.workers x.chain.ticket.queue)
StandsFor (Transition.EnterBusy x) w =
    SlotIs w x.chain.ticket.queue (Slot.Arrived x) × HasSeat w (owner w.workers x.chain.ticket.queue)
StandsFor (Transition.Direct c o xs) w = SlotIs w c.ticket.queue (Slot.Direct c o)
StandsFor (Transition.Put k x) w = Puts w k x
StandsFor (Transition.Keep k x) w = KeepsJob w k x
StandsFor (Transition.Take k from x) w = TakesJob w k from x
StandsFor (Transition.Commit k x r) w = HasHand w k (Hand.Taken x)
StandsFor (Transition.CommitBusy k x) w = HasHand w k (Hand.Taken x)
StandsFor (Transition.CommitAborted k x why) w = HasHand w k (Hand.Taken x)
StandsFor (Transition.Defer k x) w = HasHand w k (Hand.Taken x)
StandsFor (Transition.Withhold k x r) w = HasHand w k (Hand.Taken x)
StandsFor (Transition.Conclude k x r) w = HasHand w k (Hand.Taken x)
StandsFor Transition.Wake w = Awakens w
StandsFor (Transition.Resume k x) w = Resumes w k x
StandsFor (Transition.Answer k x o xs) w = HasHand w k (Hand.Done x o)
StandsFor (Transition.Leave k unit_index t jobs) w = HasHand w k (Hand.Answered unit_index t)
StandsFor (Transition.Mark t p m jobs) w = VisitsNext w t p.unit (Marking m) × HasSeat w 0
StandsFor (Transition.Ask t unit_index rule b) w = VisitsNext w t unit_index (Querying rule)
StandsFor (Transition.MarkRefused t) w = MarksRefused w t
StandsFor (Transition.Check t p) w = (later : List MarkAt) × IsWaiting w t (p ∷ later)
StandsFor (Transition.Respond c r xs) w = (g : IsDone w c) × (r ≡ response_of g.waiting.opened.function)
StandsFor (Transition.Hard p jobs) w = HasSeat w w.workers
StandsFor (Transition.Resize unit_index blocks) w = ⊤
StandsFor (Transition.Deal unit_index x) w = ⊤
StandsFor (Transition.Give e c xs) w = IsPort w e c
StandsFor (Transition.Miss e) w = Misses w e
StandsFor (Transition.EnterStale x) w = ⊥
StandsFor (Transition.CommitUnknown k x) w = ⊥
StandsFor (Transition.Idle e) w = ⊥

-- the unit, and the queue with memory, are there and do as the transition asks
abbrev pub LendsUnit : Transition → PlainWorld → Type 0
LendsUnit d w = Under (unit_of d) (λ i. (u : PlainUnit) × (slice_get w.units i ≡ Some u) × AsksUnit d u)

abbrev pub LendsQueue : Transition → PlainWorld → Type 0
LendsQueue d w =
    Under (queue_of d) (λ i. (q : PlainQueue) × (slice_get w.queues i ≡ Some q)
    × AsksQueue w.shared w.inventory w.missed d q w.memory)
