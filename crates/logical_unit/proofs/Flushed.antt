-- What a flush promises as it ends, and a READ of the medium.
use Rattle.std.proofs.Common.{◌≡◌, ◌⊎◌, ℕ, ◌||◌, ◌&&◌, Bool, true, false, inl, inr, List, length, Option, Some, None, IfSome, Ok, Err, refl, sym, ◌∙◌, ap, subst, if◌then◌else◌, arith}
use Rattle.std.proofs.lemmas.List.Elements.{All-contains}
use Rattle.sense.specs.declared.Sense.{Sense}
use Rattle.sense.specs.Conditions.{lba_out_of_range, write_protected}
use Rattle.block_store.specs.Blocks.{Blocks, is_within, run}
use Rattle.block_store.specs.Storage.{Ledger, IsLeft, storage_by}
use Rattle.backed_store.specs.Stores as backed
use Rattle.backed_store.specs.Disks as disks
use Rattle.backed_store.specs.Disks.{IsKeptAs}
use Rattle.backed_store.specs.declared.disk.Disk.{Disk}
use Rattle.backed_store.specs.declared.disk.Disk.TheVariants.{Whole, Backed}
use Rattle.cdb.specs.declared.commands.Command.{Command}
use Rattle.cdb.specs.declared.commands.Command.TheVariants.{TestUnitReady, RequestSense, Read, Write, Inquiry, ReadCapacity10, ReadCapacity16, SynchronizeCache, WriteSame, Unmap, CompareAndWrite, ReportLuns, Wide, Bad, Unknown}
use Rattle.command_model.specs.Attention.{met}
use Rattle.command_model.specs.Capacity.{is_in_range}
use Rattle.command_model.specs.Data.{Answer}
use Rattle.command_model.specs.Facts.{Facts}
use Rattle.command_model.specs.PlainReply.{PlainReply, replied}
use Rattle.command_model.specs.Replies.{reply_of, reported, is_protected}
use Rattle.command_model.specs.Statuses.{good}
use Rattle.command_model.specs.Waiting.{is_flush, is_read, flushes}
use Rattle.unit_model.specs.Tasks.{Entry}
use Rattle.unit_model.specs.Steps.{Step, as_of}
use Rattle.unit_model.specs.Enabling.{enabled}
use Rattle.unit_model.specs.Contents.{Opening, blocks_of, capacity_of, facts_after, reply_after}
use Rattle.unit_model.specs.Flushing.{is_in_flush, IsDurable, IsAsLeft, IsFlushed}
use Rattle.unit_model.proofs.Past.{as_of-now}
use Rattle.logical_unit.specs.Inner.Flushes.{IsReadKept}

-- A reply with GOOD

reported_good : (a : Option Sense) (x : PlainReply) → (reported a x).status ≡ good → x.status ≡ good
reported_good None x ends = ends
reported_good (Some s) x ends = let never : 2 ≡ 0 = ends in absurd (omega (arith, never))

-- in range, where it isn't refused
answered_good : (command : Command) (protected in_range : Bool) (x : Answer) (s t : Sense)
    → (replied command (if protected then Err s else (if in_range then x else Err t))).status ≡ good → in_range ≡ true
answered_good command protected true x s t ends = refl
answered_good command true false x s t ends = let never : 2 ≡ 0 = ends in absurd (omega (arith, never))
answered_good command false false x s t ends = let never : 2 ≡ 0 = ends in absurd (omega (arith, never))

read_in_range : (facts : Facts) (lba count : ℕ) (bytes : List ℕ) (blocks : Blocks)
    → (reply_of facts (Read lba count) bytes blocks).status ≡ good → is_in_range facts.capacity lba count ≡ true
read_in_range facts lba count bytes blocks ends =
    answered_good (Read lba count) (is_protected facts (Read lba count)) (is_in_range facts.capacity lba count) (Ok (run blocks lba count))
    write_protected lba_out_of_range (reported_good (met (Read lba count) facts.pending) _ ends)

-- What a READ of the medium reads

-- what a crash leaves of a block that the storage has as it is
left_kept : (l : Ledger) (blocks left : Blocks) (b : ℕ) → IsLeft l left → IsKeptAs l blocks b → left b ≡ blocks b
left_kept l blocks left b leaves kept = elim (leaves b) [
  | inl same ↦ same ∙ kept.0
  | inr is ↦ All-contains (λ x. x ≡ blocks b) ((storage_by l).unkept b) (left b) kept.1 is
]

as_left : (o : Opening) (steps : List Step) (l : Ledger) (blocks : Blocks) (command : Command) (lba count : ℕ) → command ≡ Read lba count
    → ((b : ℕ) → blocks b ≡ blocks_of o steps b) → ((b : ℕ) → is_within lba count b ≡ true → IsKeptAs l blocks b) → IsAsLeft o steps l command
as_left o steps l blocks command lba count is stored kept = λ left leaves b named.
    left_kept l blocks left b leaves (kept b (ap (λ c. is_in_flush c b) (sym is) ∙ named)) ∙ stored b

-- so it is what the block was once the READ might run
read_flushed : (o : Opening) (steps : List Step) (e : Entry) (l : Ledger) → enabled e steps ≡ true → IsAsLeft o steps l e.command
    → IsFlushed o steps l e
read_flushed o steps e l might exact = (
  λ left leaves b named.
      record {
        place = length steps;
        past = omega arith;
        might = ap (λ w. enabled e w) (as_of-now (length steps) steps (omega arith)) ∙ might;
        is = exact left leaves b named ∙ ap (λ w. blocks_of o w b) (sym (as_of-now (length steps) steps (omega arith)));
      },
  λ reads. exact,
)

-- What a command that flushes promises

asked : (a : Bool) → (a && true) ≡ true → a ≡ true
asked true flush = refl
asked false flush = flush

never_asked : (a : Bool) → (a && false) ≡ true → ⊥
never_asked true flush = let no : false ≡ true = flush in cc
never_asked false flush = let no : false ≡ true = flush in cc

module _ (o : Opening) (steps : List Step) (e : Entry) (r : PlainReply) (might : enabled e steps ≡ true) (is : r ≡ reply_after o e steps) (ends : r.status ≡ good) where
  in_range : (lba count : ℕ) → e.command ≡ Read lba count → is_in_range (capacity_of o steps) lba count ≡ true
  in_range lba count same =
      read_in_range (facts_after o steps) lba count e.data_out (blocks_of o steps)
      (ap (λ c. (reply_of (facts_after o steps) c e.data_out (blocks_of o steps)).status) (sym same) ∙ sym (ap (λ (x : PlainReply). x.status) is) ∙ ends)

  of_flush : (d : Disk) → is_read e.command ≡ false → IfSome (disks.storage_of d) (λ l. IsDurable o steps l e)
      → IfSome (disks.storage_of d) (λ l. IsFlushed o steps l e)
  of_flush (Whole s) apart durable = tt
  of_flush (Backed s) apart durable = (durable, λ reads. absurd (let no : false ≡ true = sym apart ∙ reads in cc))

  of_read : (d : Disk) (lba count : ℕ) → e.command ≡ Read lba count → ((b : ℕ) → disks.blocks_of d b ≡ blocks_of o steps b)
      → disks.AreKept d lba count → IfSome (disks.storage_of d) (λ l. IsFlushed o steps l e)
  of_read (Whole s) lba count same stored kept = tt
  of_read (Backed s) lba count same stored kept =
      read_flushed o steps e (backed.ledger_of s.store) might
      (as_left o steps (backed.ledger_of s.store) (disks.blocks_of (Backed s)) e.command lba count same stored kept)

  module _ (d : Disk) (stored : (b : ℕ) → disks.blocks_of d b ≡ blocks_of o steps b) (sized : disks.size_of d ≡ capacity_of o steps)
      (durable : is_flush e.command ≡ true → IfSome (disks.storage_of d) (λ l. IsDurable o steps l e))
      (kept : e.asks_medium ≡ true → IsReadKept d e.command) where
    by_command : (command : Command) → e.command ≡ command → flushes e.asks_medium command ≡ true
        → IfSome (disks.storage_of d) (λ l. IsFlushed o steps l e)
    by_command (SynchronizeCache lba count) same flush =
        of_flush d (ap (λ c. is_read c) same) (durable (ap (λ c. is_flush c) same))
    by_command (Read lba count) same flush =
        of_read d lba count same stored
        (subst (λ c. IsReadKept d c) same (kept (asked e.asks_medium flush)) (ap (λ n. is_in_range n lba count) sized ∙ in_range lba count same))
    by_command TestUnitReady same flush = absurd (never_asked e.asks_medium flush)
    by_command (RequestSense format allocation) same flush = absurd (never_asked e.asks_medium flush)
    by_command (Write lba count) same flush = absurd (never_asked e.asks_medium flush)
    by_command (Inquiry what allocation) same flush = absurd (never_asked e.asks_medium flush)
    by_command ReadCapacity10 same flush = absurd (never_asked e.asks_medium flush)
    by_command (ReadCapacity16 allocation) same flush = absurd (never_asked e.asks_medium flush)
    by_command (WriteSame lba count) same flush = absurd (never_asked e.asks_medium flush)
    by_command (Unmap count) same flush = absurd (never_asked e.asks_medium flush)
    by_command (CompareAndWrite lba count) same flush = absurd (never_asked e.asks_medium flush)
    by_command (ReportLuns select allocation) same flush = absurd (never_asked e.asks_medium flush)
    by_command (Wide command) same flush = absurd (never_asked e.asks_medium flush)
    by_command (Bad opcode) same flush = absurd (never_asked e.asks_medium flush)
    by_command Unknown same flush = absurd (never_asked e.asks_medium flush)

    pub flushed : flushes e.asks_medium e.command ≡ true → IfSome (disks.storage_of d) (λ l. IsFlushed o steps l e)
    flushed flush = by_command e.command refl flush
