-- The flush of a unit that waits.
use Rattle.std.specs.Prelude.{ℕ, ◌≡◌, ◌≤◌, ◌<◌, ◌+◌, ◌/◌, Bool, true, false, List, ◌∷◌, All, length, Option, Some, None, IfSome, if◌then◌else◌, ⊤}
use Rattle.block_store.specs.Storage.{Storage, storage_by}
use Rattle.block_store.specs.Inner.Hosted.{Hosted}
use Rattle.backed_store.specs.Disks.{size_of, AreKept}
use Rattle.backed_store.specs.declared.disk.Disk.{Disk}
use Rattle.cdb.specs.declared.commands.Command.{Command}
use Rattle.cdb.specs.declared.commands.Command.TheVariants.{Read}
use Rattle.command_model.specs.Capacity.{is_in_range}
use Rattle.ring_core.specs.declared.log.Ticket.{Ticket}
use Rattle.unit_model.specs.Tasks.{Entry, same_ticket}
use Rattle.unit_model.specs.Steps.{Step, as_of, done}
use Rattle.unit_model.specs.Enabling.{enabled}
use Rattle.unit_model.specs.Contents.{Opening, blocks_of}
use Rattle.logical_unit.specs.declared.flushing.Fence.{Fence}

-- block b of a unit had these bytes once so many steps stood, or later
pub record HasBeenSince (o : Opening) (steps : List Step) (since b : ℕ) (bytes : List ℕ) : Type 0 where
  pub place : ℕ
  pub later : since ≤ place
  pub past : place ≤ length steps
  pub is : bytes ≡ blocks_of o (as_of place steps) b

-- what the storage keeps of block b, and all else that it may have of it, is as the block was once so many steps stood, or later
abbrev pub IsLeftSince : Opening → List Step → ℕ → Storage → ℕ → Type 0
IsLeftSince o steps since s b = HasBeenSince o steps since b (s.kept b) × All (HasBeenSince o steps since b) (s.unkept b)

-- so of each block that counts for the latest flush, and of what the host was given of it
abbrev pub HaveBeen : Opening → List Step → ℕ → Hosted → ℕ → Type 0
HaveBeen o steps since h b =
    (h.progress.kept (b / 8) ≡ true → IsLeftSince o steps since (storage_by h.ledger) b)
    × (h.progress.given (b / 8) ≡ true → HasBeenSince o steps since b ((storage_by h.ledger).given b))

abbrev pub AreSince : Opening → List Step → ℕ → Option Hosted → Type 0
AreSince o steps since hosted = IfSome hosted (λ h. (b : ℕ) → HaveBeen o steps since h b)

-- the step at a place is the Enter of a task
abbrev pub EnteredAs : Entry → ℕ → List Step → Type 0
EnteredAs e place steps = as_of (place + 1) steps ≡ Step.Enter e ∷ as_of place steps

-- the task that entered at a place might run once so many steps stood
abbrev pub Might : ℕ → ℕ → List Step → Type 0
Might place since steps = (e : Entry) → EnteredAs e place steps → enabled e (as_of since steps) ≡ true

-- the flush of a task
abbrev pub fence_of : Ticket → ℕ → Bool → Fence
fence_of t place ran = record { ticket = t; place = place; ran = ran }

-- its command may run now, or ran
pub record MayBegin (steps : List Step) (f : Fence) : Type 0 where
  pub before : f.place < length steps
  pub might : f.ran ≡ false → Might f.place (length steps) steps
  pub ran : f.ran ≡ true → done f.ticket steps ≡ true

-- the flush of a task began once its command might run, or, where that is so, once it ran
pub record HasBegun (o : Opening) (steps : List Step) (f : Fence) (hosted : Option Hosted) : Type 0 where
  pub since : ℕ
  pub before : f.place < length steps
  pub past : since ≤ length steps
  pub might : f.ran ≡ false → Might f.place since steps
  pub ran : f.ran ≡ true → done f.ticket (as_of since steps) ≡ true
  pub has : AreSince o steps since hosted

-- so of the flush that waits, if one waits
abbrev pub AreFenced : Opening → List Step → Option Fence → Option Hosted → Type 0
AreFenced o steps None hosted = ⊤
AreFenced o steps (Some f) hosted = HasBegun o steps f hosted

-- the flush that waits, once that of ticket t doesn't
abbrev pub without : Option Fence → Ticket → Option Fence
without None t = None
without (Some f) t = if same_ticket f.ticket t then None else Some f

-- the storage has each block below the capacity that a READ reads as it is
abbrev pub IsReadKept : Disk → Command → Type 0
IsReadKept d (Read lba count) = is_in_range (size_of d) lba count ≡ true → AreKept d lba count
IsReadKept d command = ⊤
