-- What may happen next, as a plain value.
use Rattle.std.specs.Prelude.{ℕ}
use Rattle.block_store.specs.Storage.{Dealing}
use Rattle.ring_core.specs.Writes.{Write}
use Rattle.device_model.specs.declared.event.Event as declared
use Rattle.device_model.specs.declared.event.Event.TheVariants as event

-- one atomic step of the device, of its guest, of its operator or of its host
pub data Event : Type 0 where
  Poke : Write → Event
  Fetch : ℕ → Event
  Enter : ℕ → Event
  Direct : ℕ → Event
  Put : ℕ → Event
  Take : ℕ → Event
  Prepare : ℕ → Event
  Commit : ℕ → Event
  Answer : ℕ → Event
  Leave : ℕ → Event
  Mark : Event
  Check : Event
  AnswerTmf : Event
  Hard : ℕ → Event
  Resize : ℕ → ℕ → Event
  Raise : Event
  Wake : Event
  Resume : ℕ → Event
  -- no event of the code: calls of the host make these steps
  Deal : ℕ → Dealing → Event

-- an event of the code
abbrev pub plain_event : declared.Event → Event
plain_event (event.Poke addr bytes) = Event.Poke (record { addr = addr; bytes = bytes.items })
plain_event (event.Fetch q) = Event.Fetch q
plain_event (event.Enter q) = Event.Enter q
plain_event (event.Direct q) = Event.Direct q
plain_event (event.Put k) = Event.Put k
plain_event (event.Take k) = Event.Take k
plain_event (event.Prepare k) = Event.Prepare k
plain_event (event.Commit k) = Event.Commit k
plain_event (event.Answer k) = Event.Answer k
plain_event (event.Leave k) = Event.Leave k
plain_event event.Mark = Event.Mark
plain_event event.Check = Event.Check
plain_event event.AnswerTmf = Event.AnswerTmf
plain_event (event.Hard unit_index) = Event.Hard unit_index
plain_event (event.Resize unit_index blocks) = Event.Resize unit_index blocks
plain_event event.Raise = Event.Raise
plain_event event.Wake = Event.Wake
plain_event (event.Resume k) = Event.Resume k
