-- How a command ends that needs what its unit's host can't read, or flushes what it can't write.
use Rattle.std.specs.Prelude.{ℕ, ◌≡◌, ◌+◌, ◌-◌, ◌*◌, ◌/◌, ◌&&◌, not, Bool, true, false, nat_le, nat_lt, max, List, None, is_ok}
use Rattle.std.specs.List.{list_any}
use Rattle.sense.specs.Conditions.{unrecovered_read_error, write_error}
use Rattle.cdb.specs.declared.commands.Command.{Command}
use Rattle.cdb.specs.declared.commands.Command.TheVariants.{Read, Write, WriteSame, Unmap, CompareAndWrite, SynchronizeCache, Wide}
use Rattle.cdb.specs.declared.wide_commands.WideCommand.{WideCommand}
use Rattle.cdb.specs.declared.wide_commands.WideCommand.TheVariants.{GetLbaStatus, Verify, WriteZeros, OrWrite}
use Rattle.command_model.specs.Attention.{met}
use Rattle.command_model.specs.Capacity.{is_in_range}
use Rattle.command_model.specs.Facts.{Facts}
use Rattle.command_model.specs.PlainReply.{PlainReply, refusal, sent_in}
use Rattle.command_model.specs.Provisioning.{looked_at}
use Rattle.command_model.specs.Replies.{format_told, is_protected, unmap_answer}
use Rattle.command_model.specs.UnmapList.{descriptors}

-- own: a range that lies below the capacity has a block in page p, of blocks 8 p to 8 p + 7
abbrev pub reaches : ℕ → ℕ → ℕ → ℕ → Bool
reaches blocks lba count p =
    is_in_range blocks lba count && (nat_lt 0 count && (nat_le (lba / 8) p && nat_le p ((lba + count - 1) / 8)))

-- own: and lacks one of them
abbrev pub cuts : ℕ → ℕ → ℕ → ℕ → Bool
cuts blocks lba count p = reaches blocks lba count p && not (nat_le lba (8 * p) && nat_le (8 * p + 8) (lba + count))

-- own: one of some ranges does, each an address and a number of blocks
abbrev pub are_cut : ℕ → List (ℕ × ℕ) → ℕ → Bool
are_cut blocks taken p = list_any (λ d. cuts blocks d.0 d.1 p) taken

-- own: a command needs page p of a disk of so many blocks as the storage has it, where it reads a block of it, or writes over
-- a part of it
abbrev pub needs_page_wide : ℕ → WideCommand → ℕ → Bool
needs_page_wide blocks (GetLbaStatus allocation lba) p = reaches blocks lba (looked_at blocks lba) p
needs_page_wide blocks (Verify sent count lba) p = reaches blocks lba count p
needs_page_wide blocks (WriteZeros count lba) p = cuts blocks lba count p
needs_page_wide blocks (OrWrite count lba) p = reaches blocks lba count p
needs_page_wide blocks _ p = false

abbrev pub needs_page : ℕ → Command → List ℕ → ℕ → Bool
needs_page blocks (Read lba count) bytes p = reaches blocks lba count p
needs_page blocks (Write lba count) bytes p = cuts blocks lba count p
needs_page blocks (WriteSame lba count) bytes p = cuts blocks lba count p
needs_page blocks (Unmap list_length) bytes p =
    is_ok (unmap_answer blocks bytes) && are_cut blocks (descriptors bytes) p
needs_page blocks (CompareAndWrite lba count) bytes p = reaches blocks lba count p
needs_page blocks (Wide command) bytes p = needs_page_wide blocks command p
needs_page blocks _ bytes p = false

-- the first block that a command names by a range
abbrev pub first_named_wide : WideCommand → ℕ
first_named_wide (GetLbaStatus allocation lba) = lba
first_named_wide (Verify sent count lba) = lba
first_named_wide (WriteZeros count lba) = lba
first_named_wide (OrWrite count lba) = lba
first_named_wide _ = 0

abbrev pub first_named : Command → ℕ
first_named (Read lba count) = lba
first_named (Write lba count) = lba
first_named (WriteSame lba count) = lba
first_named (CompareAndWrite lba count) = lba
first_named (Wide command) = first_named_wide command
first_named _ = 0

-- MEDIUM ERROR, with the first block of page p that the command names by a range, else the first of the page
abbrev pub unread : Facts → Command → ℕ → PlainReply
unread facts command p = sent_in (format_told facts) (refusal (unrecovered_read_error (max (first_named command) (8 * p))))

-- own: a command that meets no attention, and isn't refused by a read-only unit, ends so where it needs page p; only at a unit
-- whose disk is one whose pages come and go
pub record IsUnread (facts : Facts) (command : Command) (bytes : List ℕ) (p : ℕ) (r : PlainReply) : Type 0 where
  pub backed : facts.backed ≡ true
  pub unmet : met command facts.pending ≡ None
  pub unprotected : is_protected facts command ≡ false
  pub needed : needs_page facts.capacity command bytes p ≡ true
  pub is : r ≡ unread facts command p

-- own: a command that asks for the medium itself, or doesn't, flushes page p of a disk of so many blocks: SYNCHRONIZE CACHE of
-- blocks below the capacity each page, since a flush is of the whole disk; a READ that asks for the medium (FUA, SBC-3 §5.11)
-- those that it reads a block of
abbrev pub flushes_page : Bool → ℕ → Command → ℕ → Bool
flushes_page asks_medium blocks (SynchronizeCache lba count) p = is_in_range blocks lba count && nat_lt (8 * p) blocks
flushes_page asks_medium blocks (Read lba count) p = asks_medium && reaches blocks lba count p
flushes_page asks_medium blocks _ p = false

-- MEDIUM ERROR, with the first block of page p
abbrev pub unwritten : Facts → ℕ → PlainReply
unwritten facts p = sent_in (format_told facts) (refusal (write_error (8 * p)))

-- own: a command that meets no attention ends so where it flushes page p; only at a unit whose disk is one whose pages come and go
pub record IsUnwritten (facts : Facts) (asks_medium : Bool) (command : Command) (p : ℕ) (r : PlainReply) : Type 0 where
  pub backed : facts.backed ≡ true
  pub unmet : met command facts.pending ≡ None
  pub flushed : flushes_page asks_medium facts.capacity command p ≡ true
  pub is : r ≡ unwritten facts p
