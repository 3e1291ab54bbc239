-- A command that ran with exactly the data that it takes.
use Rattle.std.proofs.Common.{◌≡◌, ◌≤◌, ◌<◌, ℕ, ◌==◌, ◌||◌, ◌&&◌, nat_lt, Bool, true, false, List, None, length, take, refl, subst, sym, ◌∙◌, le_refl, arith, if◌then◌else◌}
use Rattle.std.proofs.lemmas.Bool.Decides.{nat_tests}
use Rattle.std.proofs.lemmas.List.{take_all}
use Rattle.cdb.specs.Need.{need_of, wide_need}
use Rattle.cdb.specs.declared.commands.Command.{Command}
use Rattle.cdb.specs.declared.commands.Command.TheVariants.{TestUnitReady, RequestSense, Read, Write, Inquiry, ReadCapacity10, ReadCapacity16, SynchronizeCache, WriteSame, Unmap, CompareAndWrite, ReportLuns, Wide, Bad, Unknown}
use Rattle.cdb.specs.declared.wide_commands.WideCommand.{WideCommand}
use Rattle.cdb.specs.declared.wide_commands.WideCommand.TheVariants.{ModeSense, ModeSelect, ReportTaskManagement, ReportOperationCodes, GetLbaStatus, Verify, WriteZeros, OrWrite, FormatUnit, ReadDefectData}
use Rattle.block_store.specs.Blocks.{Blocks}
use Rattle.command_model.specs.Effects.{block_after, given, wide_given}
use Rattle.command_model.specs.Facts.{Facts}
use Rattle.command_model.specs.Memory.{may_want}
use Rattle.command_model.specs.Replies.{reply_of}
use Rattle.command_model.specs.Statuses.{good}
use Rattle.unit_attention.specs.declared.code.Code.{Code}
use Rattle.unit_log.specs.Inner.Kept.{kept_reply}
use Rattle.logical_unit.specs.Inner.Performing.{Ran, RanShort, PlainPerformed, taken}

pub ran : (keeps : Bool) (facts : Facts) (command : Command) (bytes : List ℕ) (size : ℕ) (p : PlainPerformed)
    (blocks blocks' : Blocks) (pending pending' : List Code) →
    length bytes ≡ size →
    p.reply ≡ reply_of facts command (take size bytes) blocks →
    p.kept ≡ kept_reply keeps p.reply →
    ((b : ℕ) → blocks' b ≡ block_after command (take size bytes) p.reply.status blocks b) →
    pending' ≡ taken command pending →
    Ran keeps facts command bytes p blocks blocks' pending pending'
ran keeps facts command bytes size p blocks blocks' pending pending' sized reply kept stored pends =
    let same : take size bytes ≡ bytes = take_all size bytes (subst (λ n. n ≤ size) (sym sized) (le_refl size)) in
    let replied : p.reply ≡ reply_of facts command bytes blocks =
    subst (λ d. p.reply ≡ reply_of facts command d blocks) same reply in
    record {
      reply = replied;
      kept = subst (λ r. p.kept ≡ kept_reply keeps r) replied kept;
      stored = λ b. subst (λ r. blocks' b ≡ block_after command bytes r.status blocks b) replied
          (subst (λ d. blocks' b ≡ block_after command d p.reply.status blocks b) same (stored b));
      pends = pends;
    }

-- A command with data for the driver

-- of the wide profile alone gives a block nothing
wide_none : (command : WideCommand) (bytes : List ℕ) (b : ℕ) (old : List ℕ) → 0 < (wide_need command).into → wide_given command bytes b old ≡ None
wide_none (ModeSense request) bytes b old h = refl
wide_none (ModeSelect form count) bytes b old h = refl
wide_none (ReportTaskManagement extended allocation) bytes b old h = refl
wide_none (ReportOperationCodes asked timeouts allocation) bytes b old h = refl
wide_none (GetLbaStatus allocation lba) bytes b old h = refl
wide_none (Verify sent count lba) bytes b old h = refl
wide_none (WriteZeros count lba) bytes b old h = absurd (omega (arith, h))
wide_none (OrWrite count lba) bytes b old h = absurd (omega (arith, h))
wide_none (FormatUnit list) bytes b old h = absurd (omega (arith, h))
wide_none (ReadDefectData request) bytes b old h = refl

-- nor does another
given_none : (command : Command) (bytes : List ℕ) (b : ℕ) (old : List ℕ) → 0 < (need_of command).into → given command bytes b old ≡ None
given_none TestUnitReady bytes b old h = refl
given_none (RequestSense format allocation) bytes b old h = refl
given_none (Read lba count) bytes b old h = refl
given_none (Write lba count) bytes b old h = absurd (omega (arith, h))
given_none (Inquiry what allocation) bytes b old h = refl
given_none ReadCapacity10 bytes b old h = refl
given_none (ReadCapacity16 allocation) bytes b old h = refl
given_none (SynchronizeCache lba count) bytes b old h = refl
given_none (WriteSame lba count) bytes b old h = absurd (omega (arith, h))
given_none (Unmap count) bytes b old h = absurd (omega (arith, h))
given_none (CompareAndWrite lba count) bytes b old h = absurd (omega (arith, h))
given_none (ReportLuns select allocation) bytes b old h = refl
given_none (Wide command) bytes b old h = wide_none command bytes b old h
given_none (Bad opcode) bytes b old h = refl
given_none Unknown bytes b old h = refl

either_way : {X : Type 0} (c : Bool) (x : X) → (if c then x else x) ≡ x
either_way true x = refl
either_way false x = refl

-- so each block stays
data_stays : (command : Command) (bytes : List ℕ) (code : ℕ) (blocks : Blocks) (b : ℕ) → 0 < (need_of command).into
    → block_after command bytes code blocks b ≡ blocks b
data_stays command bytes code blocks b h = rw (given_none command bytes b (blocks b) h) (either_way (code == good) (blocks b))

zero_less : (n : ℕ) → 0 < n → nat_lt 0 n ≡ true
zero_less n h = grind (arith, nat_tests)

own_copy : (wants keeps into : Bool) → keeps ≡ true → into ≡ true → (wants || (keeps && into)) ≡ true
own_copy true keeps into k i = refl
own_copy false keeps into k i = rw (k, i) refl

-- it ran, but memory was refused to the copy of its reply
pub refused : (keeps : Bool) (facts : Facts) (command : Command) (bytes : List ℕ) (code : ℕ) (blocks blocks' : Blocks) (pending : List Code)
    → keeps ≡ true → 0 < (need_of command).into → ((b : ℕ) → blocks' b ≡ block_after command bytes code blocks b)
    → RanShort keeps facts command blocks blocks' pending pending
refused keeps facts command bytes code blocks blocks' pending kept into stored =
    record {
      want = own_copy (may_want facts command) keeps (nat_lt 0 (need_of command).into) kept (zero_less (need_of command).into into);
      stored = λ b. stored b ∙ data_stays command bytes code blocks b into;
      pends = refl;
    }
