-- A call where there is a device, and one where there is none.
use Rattle.std.proofs.Common.{◌≡◌, ◌≤◌, refl, sym, ap, subst}
use Rattle.std.specs.Prelude.{ℕ, true, false, List, Option, Some, None, is_some}
use Rattle.unit_model.specs.Contents.{is_capacity}
use Rattle.config.specs.declared.config.Config.{Config}
use Rattle.c_calls.specs.Wanted.{Asks}
use Rattle.block_store.specs.Blocks.{Blocks}
use Rattle.backed_store.specs.Disks.{size_of, blocks_of, hosted_of}
use Rattle.logical_unit.proofs.Durable.{hosted_ledger}
use Rattle.backed_store.specs.declared.disk.Disk.{Disk as UnitDisk}
use Rattle.c_calls.specs.Disks.{OnDisk, CreatesDisk, IsBlank, CreatesBacked, IsBackedOver, IsUnchanged}
use Rattle.c_calls.specs.Calls.{Serving, Creates, Makes, Refuses}
use Rattle.c_calls.specs.declared.answer.Answer.{Answer}
use Rattle.c_calls.specs.declared.answer.Answer.TheVariants as answer
use Rattle.c_calls.specs.declared.served.Served.{Served}
use Rattle.c_calls.specs.declared.wanted.Fault.{Fault}
use Rattle.c_calls.specs.declared.wanted.WantedQueue.{WantedQueue}
use Rattle.c_calls.specs.declared.wanted.WantedUnit.{WantedUnit}

pub serving : (R : Served → Answer → Served → Type 0) (Same : Type 0) (old : Option Served) (a : Answer) (after : Option Served) (d d' : Served)
    → old ≡ Some d → after ≡ Some d' → R d a d' → Serving R Same old a after
serving R Same old a after d d' e f r = subst (λ (o : Option Served). Serving R Same o a after) (sym e) (d', f, r)

pub without : (R : Served → Answer → Served → Type 0) (Same : Type 0) (old after : Option Served) → old ≡ None → after ≡ None → Same
    → Serving R Same old answer.NoDevice after
without R Same old after e f s = subst (λ (o : Option Served). Serving R Same o answer.NoDevice after) (sym e) (refl, f, s)

pub handling : (R : UnitDisk → Answer → UnitDisk → Type 0) (Same : Type 0) (old : Option UnitDisk) (a : Answer) (after : Option UnitDisk) (s s' : UnitDisk)
    → old ≡ Some s → after ≡ Some s' → R s a s' → OnDisk R Same old a after
handling R Same old a after s s' e f r = subst (λ (o : Option UnitDisk). OnDisk R Same o a after) (sym e) (s', f, r)

pub without_disk : (R : UnitDisk → Answer → UnitDisk → Type 0) (Same : Type 0) (old after : Option UnitDisk) → old ≡ None → after ≡ None → Same
    → OnDisk R Same old answer.NoDisk after
without_disk R Same old after e f s = subst (λ (o : Option UnitDisk). OnDisk R Same o answer.NoDisk after) (sym e) (refl, f, s)

pub unchanged : (s s' : UnitDisk) → blocks_of s' ≡ blocks_of s → size_of s' ≡ size_of s → hosted_of s' ≡ hosted_of s
    → IsUnchanged s s'
unchanged s s' same size storage =
    record { size = size; blocks = λ b. ap (λ (f : Blocks). f b) same; storage = hosted_ledger s' s storage }

pub created : (blocks : ℕ) (old after : Option UnitDisk) (s : UnitDisk) → is_some old ≡ false → is_capacity blocks ≡ true → IsBlank blocks s
    → after ≡ Some s → CreatesDisk blocks old answer.Done after
created blocks None after s none fits blank is = (fits, s, blank, is)
created blocks (Some x) after s none fits blank is = cc

pub created_backed : (content : List ℕ) (blocks most_pages : ℕ) (old after : Option UnitDisk) (s : UnitDisk) → is_some old ≡ false
    → is_capacity blocks ≡ true → 8448 ≤ most_pages → IsBackedOver content blocks most_pages s → after ≡ Some s
    → CreatesBacked content blocks most_pages old answer.Done after
created_backed content blocks most_pages None after s none fits many over is = (fits, many, s, over, is)
created_backed content blocks most_pages (Some x) after s none fits many over is = cc

module _ (pages features : ℕ) (queues : List WantedQueue) (units : List WantedUnit) (fault told : Fault) (old after : Option Served) (c : Config) (none : old ≡ None) (asks : Asks pages features queues units c) where
  pub made : (d : Served) → Makes c d → after ≡ Some d → told ≡ fault → Creates pages features queues units fault told old answer.Done after
  made d makes e s = subst (λ (o : Option Served). Creates pages features queues units fault told o answer.Done after) (sym none) (c, d, asks, makes, e, s)

  pub refused : Refuses c told → after ≡ None → Creates pages features queues units fault told old answer.BadConfig after
  refused r e = subst (λ (o : Option Served). Creates pages features queues units fault told o answer.BadConfig after) (sym none) (c, asks, r, e)
