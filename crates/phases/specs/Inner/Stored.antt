-- What the phases store that complete a chain: the bytes that answer it, and then its used entry. Elsewhere they store nothing.
use Rattle.std.specs.Prelude.{Bool, true, false, List, [], ◌∷◌, Option, Some, None, IfSome}
use Rattle.scsi_codec.specs.ControlQueue.{function_bytes}
use Rattle.scsi_codec.specs.EventQueue.{event_bytes}
use Rattle.scsi_codec.specs.declared.event_queue.Event.{Event as EventRecord}
use Rattle.ring_core.specs.State.{RingState, PlainChain}
use Rattle.ring_core.specs.Writes.{Write, scatter_writes}
use Rattle.unit_model.specs.Endings.{Ending, answer_of}
use Rattle.unit_model.specs.Jobs.{PlainJob}
use Rattle.logical_unit.specs.Endings.{ending_of}
use Rattle.task_mgmt.specs.Functions.{response_of}
use Rattle.device_model.specs.Parts.{Completion, Slot, Hand, answer_writes, lengths_of}
use Rattle.device_model.specs.World.{Opened}
use Rattle.device_model.specs.Event.Fetch.{spent_bytes}
use Rattle.phases.specs.Direct.{decided_writes}
use Rattle.phases.specs.Outcomes.{PlainJobInHand}

-- what a completion writes, if there is one
abbrev pub writes_of : Option Completion → List Write
writes_of (Some xs) = xs.writes
writes_of None = []

-- a job that was answered
abbrev pub answered_writes : Hand → RingState → Bool → List Write
answered_writes (Hand.Done x o) r true = decided_writes r x.chain o
answered_writes h r answered = []

-- a chain that was answered from the slot
abbrev pub directed_writes : Slot → RingState → Bool → List Write
directed_writes (Slot.Direct c o) r true = decided_writes r c o
directed_writes s r answered = []

-- a function that was answered
abbrev pub responded_writes : Option Opened → RingState → Bool → List Write
responded_writes (Some f) r true = answer_writes r f.chain (function_bytes (response_of f.function))
responded_writes f r answered = []

-- an event that was given to the oldest buffer
abbrev pub raised_writes : List EventRecord → List PlainChain → RingState → Bool → List Write
raised_writes (e ∷ later) (c ∷ more) r true = answer_writes r c (event_bytes e)
raised_writes w cs r raised = []

-- what answers a job, without its used entry
abbrev pub ending_writes : PlainJob → Ending → List Write
ending_writes x e = scatter_writes x.chain.parts 0 (answer_of (lengths_of x.chain) e)

-- the same of a job in hand whose commit is over
abbrev pub StoresEnding : PlainJobInHand → (List Write → Type 0) → Type 0
StoresEnding h stored = IfSome h.outcome (λ o. stored (ending_writes h.job (ending_of o)))

-- a buffer that was used at once, or held
abbrev pub spent_writes : Bool → PlainChain → RingState → List Write
spent_writes true c r = answer_writes r c (spent_bytes c)
spent_writes false c r = []
