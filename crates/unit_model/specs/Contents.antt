-- What a unit's blocks contain, what it has pending, and what it replies to a command.
use Rattle.std.specs.Prelude.{ℕ, ◌≡◌, ◌⊎◌, ◌^◌, Bool, true, false, ◌&&◌, nat_le, nat_lt, min, List, [], ◌∷◌, Option, Some, None, if◌then◌else◌}
use Rattle.cdb.specs.declared.profile.Profile.{Profile}
use Rattle.sense.specs.declared.Sense.{Sense}
use Rattle.sense.specs.Conditions.{unit_attention}
use Rattle.block_store.specs.Blocks.{Blocks, zero_block}
use Rattle.block_store.specs.Pages.{blocks_in}
use Rattle.unit_attention.specs.declared.code.Code.{Code}
use Rattle.unit_attention.specs.Code.{code}
use Rattle.unit_attention.specs.Pending.{raised, without_first}
use Rattle.command_model.specs.declared.identity.Identity.{Identity}
use Rattle.command_model.specs.PlainReply.{PlainReply}
use Rattle.command_model.specs.Attention.{takes}
use Rattle.command_model.specs.Effects.{block_after}
use Rattle.command_model.specs.Facts.{Facts}
use Rattle.command_model.specs.Failing.{IsUnread, IsUnwritten}
use Rattle.command_model.specs.Replies.{reply_of}
use Rattle.unit_model.specs.Tasks.{Entry, task_of}
use Rattle.unit_model.specs.Steps.{Step, alive}

-- own: what a unit opens with: its address, the LUNs of its target by rising number, its capacity in blocks, whether
-- nothing is pending, the bytes of its blocks, end to end, its profile, what its configuration says of it, and whether its
-- disk is one whose pages come and go; bytes that lack are zeros
pub record Opening : Type 0 where
  pub target : ℕ
  pub lun : ℕ
  pub luns : List ℕ
  pub blocks : ℕ
  pub calm : Bool
  pub content : List ℕ
  pub profile : Profile
  pub identity : Identity
  pub backed : Bool

-- own: how many blocks a unit may have
abbrev pub is_capacity : ℕ → Bool
is_capacity blocks = nat_le 1 blocks && nat_le blocks (2 ^ 40)

-- the capacity in blocks (SBC-3 §4.5): that of the latest Resize, else that of the opening
abbrev pub capacity_of : Opening → List Step → ℕ
capacity_of o [] = o.blocks
capacity_of o (Step.Resize blocks ∷ past) = blocks
capacity_of o (step ∷ past) = capacity_of o past

-- block b once a task, if there is one, ended with this status, over the blocks before
abbrev pub block_with : Option Entry → ℕ → Blocks → Blocks
block_with None ended blocks b = blocks b
block_with (Some e) ended blocks b = block_after e.command e.data_out ended blocks b

-- what block b contains: what the latest Commit with status GOOD of a writing command that covers it gave it, else
-- what it had at the opening (SBC-3 §4.5). A Resize leaves the blocks that the unit had and keeps: those that it loses
-- and those that it gains are zeros.
abbrev pub blocks_of : Opening → List Step → Blocks
blocks_of o [] b = blocks_in o.content b
blocks_of o (Step.Commit t r ∷ past) b = block_with (task_of t (alive past)) r.status (blocks_of o past) b
blocks_of o (Step.Resize blocks ∷ past) b =
    if nat_lt b (min (capacity_of o past) blocks) then blocks_of o past b else zero_block
blocks_of o (step ∷ past) b = blocks_of o past b

-- what is pending before any step: power on (SAM-5 §6.3.1), or nothing where the unit is calm, which is own
abbrev pub pending_at_start : Bool → List Code
pending_at_start true = []
pending_at_start false = code 0x29 0x00 ∷ []

-- what is pending once a task, if there is one, was replied to: a taking command took the oldest
abbrev pub taken_by : Option Entry → List Code → List Code
taken_by None pending = pending
taken_by (Some e) pending = if takes e.command then without_first pending else pending

-- CAPACITY DATA HAS CHANGED (SPC-4 §4.5.6)
abbrev pub capacity_changed : Code
capacity_changed = code 0x2a 0x09

-- the codes that are pending, the oldest first (SAM-5 §5.14)
abbrev pub pending_of : Opening → List Step → List Code
pending_of o [] = pending_at_start o.calm
pending_of o (Step.Reset c ∷ past) = raised (pending_of o past) c
pending_of o (Step.Resize blocks ∷ past) = raised (pending_of o past) capacity_changed
pending_of o (Step.Commit t r ∷ past) = taken_by (task_of t (alive past)) (pending_of o past)
pending_of o (step ∷ past) = pending_of o past

-- the oldest code, as it is reported (SPC-4 §4.5.6)
abbrev pub oldest : List Code → Option Sense
oldest [] = None
oldest (c ∷ later) = Some (unit_attention c.asc c.ascq)

-- own: what the next command is told of the unit
abbrev pub facts_after : Opening → List Step → Facts
facts_after o h =
    record {
      target = o.target;
      lun = o.lun;
      luns = o.luns;
      capacity = capacity_of o h;
      pending = oldest (pending_of o h);
      profile = o.profile;
      identity = o.identity;
      backed = o.backed;
    }

-- the reply to a task whose command runs next (SBC-3 §5, SPC-4 §6)
abbrev pub reply_after : Opening → Entry → List Step → PlainReply
reply_after o e h = reply_of (facts_after o h) e.command e.data_out (blocks_of o h)

-- own: the reply to a task that needs page p, which can't be read, in place of that reply
abbrev pub IsUnreadAfter : Opening → Entry → List Step → ℕ → PlainReply → Type 0
IsUnreadAfter o e h p r = IsUnread (facts_after o h) e.command e.data_out p r

-- own: the reply to a task that flushes page p, which can't be written, in place of that reply
abbrev pub IsUnwrittenAfter : Opening → Entry → List Step → ℕ → PlainReply → Type 0
IsUnwrittenAfter o e h p r = IsUnwritten (facts_after o h) e.asks_medium e.command p r

-- own: any of these
abbrev pub MayReply : Opening → Entry → List Step → PlainReply → Type 0
MayReply o e h r =
    (r ≡ reply_after o e h) ⊎ (((p : ℕ) × IsUnreadAfter o e h p r) ⊎ ((p : ℕ) × IsUnwrittenAfter o e h p r))
