-- What a read-only unit refuses, and so leaves as it is.
use Rattle.std.proofs.Common.{◌≡◌, ℕ, Bool, true, false, List, Option, None, Some, Err, refl, ap, ◌∙◌, cond}
use Rattle.std.specs.Prelude.{◌==◌, ◌&&◌, if◌then◌else◌, unwrap_or}
use Rattle.sense.specs.Conditions.{write_protected}
use Rattle.sense.specs.declared.Sense.{Sense}
use Rattle.sense.specs.declared.SenseFormat.{SenseFormat}
use Rattle.cdb.specs.declared.commands.Command.{Command}
use Rattle.cdb.specs.declared.commands.Command.TheVariants.{Write, WriteSame, Unmap, CompareAndWrite, Wide}
use Rattle.cdb.specs.declared.wide_commands.WideCommand.{WideCommand}
use Rattle.cdb.specs.declared.wide_commands.WideCommand.TheVariants.{WriteZeros, OrWrite, FormatUnit}
use Rattle.block_store.specs.Blocks.{Blocks}
use Rattle.command_model.specs.Attention.{is_stopped, met}
use Rattle.command_model.specs.Data.{Answer}
use Rattle.command_model.specs.Effects.{block_after, changes_medium, changes_wide, given, wide_given}
use Rattle.command_model.specs.Facts.{Facts}
use Rattle.command_model.specs.PlainReply.{refusal, replied, sent_in}
use Rattle.command_model.specs.Replies.{answer_of, format_told, is_protected, permitted, read_only_told, reply_of, reported}
use Rattle.command_model.specs.Statuses.{check_condition, good}

wide_others : (command : WideCommand) (bytes : List ℕ) (b : ℕ) (old : List ℕ) → changes_wide command ≡ false → wide_given command bytes b old ≡ None
wide_others (WriteZeros count lba) bytes b old never = absurd (cc)
wide_others (OrWrite count lba) bytes b old never = absurd (cc)
wide_others (FormatUnit list) bytes b old never = absurd (cc)
wide_others _ bytes b old is = refl

-- a command that doesn't change the medium gives a block nothing
pub others : (command : Command) (bytes : List ℕ) (b : ℕ) (old : List ℕ) → changes_medium command ≡ false → given command bytes b old ≡ None
others (Write lba count) bytes b old never = absurd (cc)
others (WriteSame lba count) bytes b old never = absurd (cc)
others (Unmap list_length) bytes b old never = absurd (cc)
others (CompareAndWrite lba count) bytes b old never = absurd (cc)
others (Wide command) bytes b old is = wide_others command bytes b old is
others _ bytes b old is = refl

met-none : (command : Command) (pending : Option Sense) → pending ≡ None → met command pending ≡ None
met-none command pending none = elim (is_stopped command) as (λ b. cond b pending None ≡ None) [
  | true ↦ none
  | false ↦ refl
]

both : (a b : Bool) → a ≡ true → b ≡ true → (a && b) ≡ true
both true true is holds = refl
both true false is never = absurd (cc)
both false b never holds = absurd (cc)

pub refused : (facts : Facts) (command : Command) (bytes : List ℕ) (blocks : Blocks) → read_only_told facts ≡ true → changes_medium command ≡ true
    → facts.pending ≡ None → reply_of facts command bytes blocks ≡ sent_in (format_told facts) (refusal write_protected)
refused facts command bytes blocks told changes none =
    let a : Answer = answer_of facts command bytes blocks in
    ap (λ m. sent_in (format_told facts) (reported m (replied command (permitted facts command a)))) (met-none command facts.pending none)
    ∙ ap (λ (t : Bool). sent_in (format_told facts) (replied command (if t then Err write_protected else a)))
    (both (changes_medium command) (read_only_told facts) changes told)

status-protected : (m : Option Sense) (protected : Bool) (format : SenseFormat) (command : Command) (a : Answer) → protected ≡ true
    → (sent_in format (reported m (replied command (if protected then Err write_protected else a)))).status ≡ check_condition
status-protected None true format command a is = refl
status-protected None false format command a never = absurd (cc)
status-protected (Some s) protected format command a is = refl

same_either : (t : Bool) (x : List ℕ) → (if t then x else x) ≡ x
same_either true x = refl
same_either false x = refl

-- no command changes a block of it
pub kept : (facts : Facts) (command : Command) (bytes : List ℕ) (blocks : Blocks) (b : ℕ) → read_only_told facts ≡ true
    → block_after command bytes (reply_of facts command bytes blocks).status blocks b ≡ blocks b
kept facts command bytes blocks b told = either (changes_medium command) refl
  where
    either : (changes : Bool) → changes_medium command ≡ changes
        → block_after command bytes (reply_of facts command bytes blocks).status blocks b ≡ blocks b
    either true is =
        ap (λ (code : ℕ). if code == good then unwrap_or (given command bytes b (blocks b)) (blocks b) else blocks b)
        (status-protected (met command facts.pending) (is_protected facts command) (format_told facts) command
        (answer_of facts command bytes blocks) (both (changes_medium command) (read_only_told facts) is told))
    either false is =
        ap (λ (g : Option (List ℕ)). if (reply_of facts command bytes blocks).status == good then unwrap_or g (blocks b) else blocks b)
        (others command bytes b (blocks b) is)
        ∙ same_either ((reply_of facts command bytes blocks).status == good) (blocks b)
