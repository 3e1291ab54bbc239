-- What a flush promises of a unit's blocks.
use Rattle.std.specs.Prelude.{ℕ, ◌≡◌, ◌≤◌, ◌==◌, Bool, true, false, nat_le, List, length, if◌then◌else◌}
use Rattle.command_model.specs.Waiting.{is_read}
use Rattle.block_store.specs.Blocks.{Blocks, is_within}
use Rattle.block_store.specs.Storage.{Ledger, IsLeft}
use Rattle.cdb.specs.declared.commands.Command.{Command}
use Rattle.cdb.specs.declared.commands.Command.TheVariants.{Read, SynchronizeCache}
use Rattle.unit_model.specs.Tasks.{Entry}
use Rattle.ring_core.specs.declared.log.Ticket.{Ticket}
use Rattle.unit_model.specs.Steps.{Step, as_of, done}
use Rattle.unit_model.specs.Enabling.{enabled}
use Rattle.unit_model.specs.Contents.{Opening, blocks_of}

-- block b is one that a flush names: one of the count blocks from lba on; with SYNCHRONIZE CACHE any from there on where count is 0
-- (SBC-3 §5.11, §5.26, §5.27)
abbrev pub is_in_flush : Command → ℕ → Bool
is_in_flush (SynchronizeCache lba count) b = if count == 0 then nat_le lba b else is_within lba count b
is_in_flush (Read lba count) b = is_within lba count b
is_in_flush _ b = false

-- own: block b of a unit had these bytes at a moment from which on the task might run (SAM-5 §8.5)
pub record HasBeen (o : Opening) (steps : List Step) (e : Entry) (b : ℕ) (bytes : List ℕ) : Type 0 where
  pub place : ℕ
  pub past : place ≤ length steps
  pub might : enabled e (as_of place steps) ≡ true
  pub is : bytes ≡ blocks_of o (as_of place steps) b

-- whatever a crash leaves, it leaves of each block that the command of a task flushes what the block was once the task might run,
-- or later: so all that ran before the task entered, and all that it had to wait for
abbrev pub IsDurable : Opening → List Step → Ledger → Entry → Type 0
IsDurable o steps l e =
    (left : Blocks) → IsLeft l left → (b : ℕ) → is_in_flush e.command b ≡ true → HasBeen o steps e b (left b)

-- whatever a crash leaves, it leaves each block that a command names as the unit has it
abbrev pub IsAsLeft : Opening → List Step → Ledger → Command → Type 0
IsAsLeft o steps l command = (left : Blocks) → IsLeft l left → (b : ℕ) → is_in_flush command b ≡ true → left b ≡ blocks_of o steps b

-- what a flush promises as it ends: that, and, of a READ, which reads the medium itself (FUA), that what it reads is on the medium
-- (SBC-3 §5.11)
abbrev pub IsFlushed : Opening → List Step → Ledger → Entry → Type 0
IsFlushed o steps l e = IsDurable o steps l e × (is_read e.command ≡ true → IsAsLeft o steps l e.command)

-- own: block b of a unit had these bytes at a moment by which the command of a ticket's task had run
pub record HasBeenBehind (o : Opening) (steps : List Step) (t : Ticket) (b : ℕ) (bytes : List ℕ) : Type 0 where
  pub place : ℕ
  pub past : place ≤ length steps
  pub ran : done t (as_of place steps) ≡ true
  pub is : bytes ≡ blocks_of o (as_of place steps) b

-- whatever a crash leaves, it leaves of each block what the block was once the command of a ticket's task had run, or later: so
-- what that changed, and all that ran before it
abbrev pub IsThrough : Opening → List Step → Ledger → Ticket → Type 0
IsThrough o steps l t = (left : Blocks) → IsLeft l left → (b : ℕ) → HasBeenBehind o steps t b (left b)
