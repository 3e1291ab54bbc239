-- Where an event changes something.
use Rattle.std.specs.Prelude.{ℕ, ◌≡◌, List, ◌∷◌, length}
use Rattle.guest_mem.specs.Memory.{LiesIn}
use Rattle.scsi_codec.specs.declared.event_queue.Event.{Event as EventRecord}
use Rattle.ring_core.specs.State.{PlainChain}
use Rattle.ring_core.specs.declared.log.Ticket.{Ticket}
use Rattle.unit_model.specs.Steps.{Step}
use Rattle.unit_model.specs.Jobs.{PlainJob}
use Rattle.unit_model.specs.Unit.{PlainUnit}
use Rattle.device_model.specs.Parts.{Outcome, Slot, Hand}
use Rattle.device_model.specs.World.{PlainWorld}
use Rattle.device_model.specs.Events.{Event}
use Rattle.device_model.specs.Found.{UnitIs, SlotIs, HasHand, MayStep}
use Rattle.device_model.specs.Event.Fetch.{MayFetch}
use Rattle.device_model.specs.Event.HandOff.{MayPut, MayTake}
use Rattle.device_model.specs.Event.Mark.{MayMark}
use Rattle.device_model.specs.Event.Check.{MayCheck}
use Rattle.device_model.specs.Event.AnswerTmf.{MayRespond}
use Rattle.device_model.specs.Event.Wake.{Awakens, MayResume}
use Rattle.device_model.specs.Event.Deal.{Deals}

abbrev pub Applies : PlainWorld → Event → Type 0
Applies w (Event.Poke x) = LiesIn (length w.memory) x.addr (length x.bytes)
Applies w (Event.Fetch i) = MayFetch w i
Applies w (Event.Enter i) = (x : PlainJob) × SlotIs w i (Slot.Arrived x)
Applies w (Event.Direct i) = (c : PlainChain) × (o : Outcome) × SlotIs w i (Slot.Direct c o)
Applies w (Event.Put k) = MayPut w k
Applies w (Event.Take k) = MayTake w k
Applies w (Event.Prepare k) = ⊥
Applies w (Event.Commit k) = (x : PlainJob) × HasHand w k (Hand.Taken x)
Applies w (Event.Answer k) = (x : PlainJob) × (o : Outcome) × HasHand w k (Hand.Done x o)
Applies w (Event.Leave k) = (unit_index : ℕ) × (t : Ticket) × HasHand w k (Hand.Answered unit_index t)
Applies w Event.Mark = MayMark w
Applies w Event.Check = MayCheck w
Applies w Event.AnswerTmf = MayRespond w
Applies w (Event.Hard unit_index) = (u : PlainUnit) × UnitIs w unit_index u
Applies w (Event.Resize unit_index blocks) = (u : PlainUnit) × UnitIs w unit_index u × MayStep u (Step.Resize blocks)
Applies w Event.Raise = (e : EventRecord) × (later : List EventRecord) × (w.waiting ≡ e ∷ later)
Applies w Event.Wake = Awakens w
Applies w (Event.Resume k) = MayResume w k
Applies w (Event.Deal unit_index x) = Deals w unit_index x
