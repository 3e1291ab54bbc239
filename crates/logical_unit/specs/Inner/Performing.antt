-- What running a command leaves, by cases.
use Rattle.std.specs.Prelude.{ℕ, ◌≡◌, ◌⊎◌, ◌==◌, Bool, false, IsTrue, List, Option, Some, None, Result, Ok, Err, if◌then◌else◌, ⊤}
use Rattle.cdb.specs.declared.commands.Command.{Command}
use Rattle.block_store.specs.Blocks.{Blocks}
use Rattle.foundation.specs.declared.NoMemory.{NoMemory}
use Rattle.std.specs.Option.{option_map}
use Rattle.command_model.specs.PlainReply.{PlainReply, plain_of}
use Rattle.command_model.specs.Attention.{takes}
use Rattle.command_model.specs.Memory.{may_run_short}
use Rattle.block_commands.specs.declared.facts.UnitFacts.{UnitFacts}
use Rattle.unit_attention.specs.Pending.{without_first}
use Rattle.unit_attention.specs.declared.code.Code.{Code}
use Rattle.command_model.specs.Effects.{block_after}
use Rattle.command_model.specs.Facts.{Facts}
use Rattle.command_model.specs.Failing.{IsUnread, IsUnwritten}
use Rattle.command_model.specs.Replies.{reply_of}
use Rattle.command_model.specs.Statuses.{good}
use Rattle.ring_core.specs.declared.log.Ticket.{Ticket}
use Rattle.unit_model.specs.Steps.{Step}
use Rattle.unit_model.specs.Contents.{oldest}
use Rattle.unit_log.specs.Inner.Kept.{kept_reply}
use Rattle.logical_unit.specs.declared.performing.Performed.{Performed}

-- own: the facts with what is pending first
abbrev pub told : UnitFacts → List Code → UnitFacts
told facts pending = record facts { pending = oldest pending }

-- own: what is pending once a command took what it takes
abbrev pub taken : Command → List Code → List Code
taken command pending = if takes command then without_first pending else pending

-- own: what a command that ran is replied, and what is kept of that
pub record PlainPerformed : Type 0 where
  pub reply : PlainReply
  pub kept : Option PlainReply

abbrev pub performed_of : Performed → PlainPerformed
performed_of p = record { reply = plain_of p.reply; kept = option_map plain_of p.kept }

-- own: the command ran: its reply, and what it leaves
pub record Ran (keeps : Bool) (facts : Facts) (command : Command) (bytes : List ℕ) (p : PlainPerformed)
    (blocks blocks' : Blocks) (pending pending' : List Code) : Type 0 where
  pub reply : p.reply ≡ reply_of facts command bytes blocks
  pub kept : p.kept ≡ kept_reply keeps (reply_of facts command bytes blocks)
  pub stored : (b : ℕ) → blocks' b ≡ block_after command bytes (reply_of facts command bytes blocks).status blocks b
  pub pends : pending' ≡ taken command pending

-- own: memory was refused, and nothing changed
pub record RanShort (keeps : Bool) (facts : Facts) (command : Command) (blocks blocks' : Blocks)
    (pending pending' : List Code) : Type 0 where
  pub want : IsTrue (may_run_short keeps facts command)
  pub stored : (b : ℕ) → blocks' b ≡ blocks b
  pub pends : pending' ≡ pending

-- own: by what came of it
abbrev pub Performs : Bool → Facts → Command → List ℕ → Option PlainPerformed → Blocks → Blocks → List Code → List Code
    → Type 0
Performs keeps facts command bytes (Some p) blocks blocks' pending pending' =
    Ran keeps facts command bytes p blocks blocks' pending pending'
Performs keeps facts command bytes None blocks blocks' pending pending' =
    RanShort keeps facts command blocks blocks' pending pending'

-- own: the command needs a page that is lost: its reply, and no block changed
pub record RanUnread (keeps : Bool) (facts : Facts) (lost : ℕ → Type 0) (command : Command) (bytes : List ℕ) (p : PlainPerformed)
    (blocks blocks' : Blocks) (pending pending' : List Code) : Type 0 where
  pub page : ℕ
  pub unread : IsUnread facts command bytes page p.reply
  pub is_lost : lost page
  pub kept : p.kept ≡ kept_reply keeps p.reply
  pub stored : (b : ℕ) → blocks' b ≡ blocks b
  pub pends : pending' ≡ taken command pending

-- own: the command flushes a page that is denied: its reply, and no block changed
pub record RanUnwritten (keeps : Bool) (facts : Facts) (asks_medium : Bool) (denied : ℕ → Type 0) (command : Command) (p : PlainPerformed)
    (blocks blocks' : Blocks) (pending pending' : List Code) : Type 0 where
  pub page : ℕ
  pub unwritten : IsUnwritten facts asks_medium command page p.reply
  pub is_denied : denied page
  pub kept : p.kept ≡ kept_reply keeps p.reply
  pub stored : (b : ℕ) → blocks' b ≡ blocks b
  pub pends : pending' ≡ taken command pending

-- own: it was performed, or needs a page that is lost
abbrev pub Comes : Bool → Facts → (ℕ → Type 0) → Command → List ℕ → Option PlainPerformed → Blocks → Blocks → List Code
    → List Code → Type 0
Comes keeps facts lost command bytes (Some p) blocks blocks' pending pending' =
    Ran keeps facts command bytes p blocks blocks' pending pending'
    ⊎ RanUnread keeps facts lost command bytes p blocks blocks' pending pending'
Comes keeps facts lost command bytes None blocks blocks' pending pending' =
    RanShort keeps facts command blocks blocks' pending pending'

-- own: what came of a command whose reply isn't kept
abbrev pub unkept : Result PlainReply NoMemory → Option PlainPerformed
unkept (Ok r) = Some (record { reply = r; kept = None })
unkept (Err e) = None

-- own: the reply that is kept of what ran is its reply
abbrev pub IsKeptReply : Bool → Option PlainPerformed → Type 0
IsKeptReply keeps None = ⊤
IsKeptReply keeps (Some p) = p.kept ≡ kept_reply keeps p.reply

-- own: the step that stands for it
abbrev pub step_for : Ticket → Option PlainPerformed → Step
step_for t None = Step.Busy t
step_for t (Some p) = Step.Commit t p.reply

-- own: it ran, and ended with GOOD
abbrev pub ran_well : Option PlainPerformed → Bool
ran_well None = false
ran_well (Some p) = p.reply.status == good
