-- A disk, whether its pages may go or not.
use Rattle.std.specs.Prelude.{◌≡◌, ℕ, ◌/◌, ◌%◌, Bool, true, false, List, [], All, length, Option, Some, None, is_some, IfSome}
use Rattle.block_store.specs.Blocks.{Blocks, is_within}
use Rattle.block_store.specs.Storage.{Ledger, storage_by}
use Rattle.block_store.specs.Inner.Hosted.{Hosted}
use Rattle.block_store.specs.Kept as pages
use Rattle.block_store.specs.Inner.Padding.{length-blocks_in}
use Rattle.backed_store.specs.Stores as backed
use Rattle.backed_store.specs.Flushes as flushes
use Rattle.backed_store.specs.BackedDisks as backed_disks
use Rattle.backed_store.specs.Inner.Whole.{length-contents}
use Rattle.backed_store.specs.declared.disk.Disk.{Disk}
use Rattle.backed_store.specs.declared.disk.Disk.TheVariants.{Whole, Backed}

-- how many blocks it has
abbrev pub size_of : Disk → ℕ
size_of (Whole s) = s.capacity
size_of (Backed s) = s.store.capacity

-- its blocks, whether they are in memory or not
abbrev pub blocks_of : Disk → Blocks
blocks_of (Whole s) b = pages.blocks_of s.pages b
blocks_of (Backed s) b = backed.contents s.store b

-- whether block b is in memory
abbrev pub holds : Disk → ℕ → Bool
holds (Whole s) b = true
holds (Backed s) b = backed.holds s.store b

-- whether it is, or the host is asked for its page
abbrev pub is_coming : Disk → ℕ → Bool
is_coming (Whole s) b = true
is_coming (Backed s) b = backed.is_coming s.store b

-- whether it can be changed
abbrev pub has_room : Disk → ℕ → Bool
has_room (Whole s) b = true
has_room (Backed s) b = backed.has_room s.store b

-- what its host's storage had and was dealt, and how far the latest flush is by that, if its pages come and go
abbrev pub hosted_of : Disk → Option Hosted
hosted_of (Whole s) = None
hosted_of (Backed s) = Some (backed_disks.hosted_of s)

-- what its host's storage had and was dealt
abbrev pub storage_of : Disk → Option Ledger
storage_of (Whole s) = None
storage_of (Backed s) = Some (backed.ledger_of s.store)

-- whether its pages come and go
abbrev pub is_backed : Disk → Bool
is_backed d = is_some (storage_of d)

-- whether page p owes the host's storage what its latest flush waits for; never of one that isn't backed
abbrev pub owes : Disk → ℕ → Bool
owes (Whole s) p = false
owes (Backed s) p = flushes.owes s.store s.fence p

-- whether page p differs from what its host's storage has, as far as the disk knows; never of one that isn't backed
abbrev pub is_changed : Disk → ℕ → Bool
is_changed (Whole s) p = false
is_changed (Backed s) p = backed.is_dirty s.store p

-- own: block b is as it is in what the storage keeps, and in all else that it may have of it
abbrev pub IsKeptAs : Ledger → Blocks → ℕ → Type 0
IsKeptAs l blocks b = ((storage_by l).kept b ≡ blocks b) × All (λ x. x ≡ blocks b) ((storage_by l).unkept b)

-- own: what the storage may have of each block for which that counts, and what the host was given of it, is as the block is
abbrev pub IsBegun : Disk → Type 0
IsBegun d =
    IfSome (hosted_of d) (λ h. (b : ℕ) → (h.progress.kept (b / 8) ≡ true → IsKeptAs h.ledger (blocks_of d) b)
    × (h.progress.given (b / 8) ≡ true → (storage_by h.ledger).given b ≡ blocks_of d b))

-- own: its latest flush has all that it waits for
abbrev pub IsOver : Disk → Type 0
IsOver d = IfSome (hosted_of d) (λ h. (p : ℕ) → h.progress.kept p ≡ true)

-- own: the storage has each block as it is
abbrev pub IsKeptWhole : Disk → Type 0
IsKeptWhole d = IfSome (storage_of d) (λ l. (b : ℕ) → IsKeptAs l (blocks_of d) b)

-- own: the storage has each of so many blocks from the first on as it is
abbrev pub AreKept : Disk → ℕ → ℕ → Type 0
AreKept d first count = IfSome (storage_of d) (λ l. (b : ℕ) → is_within first count b ≡ true → IsKeptAs l (blocks_of d) b)

-- the latest pages that the host said it can't read, the oldest first; none of one that isn't backed
abbrev pub noted : Disk → List ℕ
noted (Whole s) = []
noted (Backed s) = backed.noted s.store

-- the latest pages that the host said it can't write, the oldest first; none of one that isn't backed
abbrev pub noted_denied : Disk → List ℕ
noted_denied (Whole s) = []
noted_denied (Backed s) = backed.noted_denied s.store

-- how many of its pages are in memory at most; not said of one that isn't backed
abbrev pub budget_of : Disk → Option ℕ
budget_of (Whole s) = None
budget_of (Backed s) = Some s.store.cache.budget

pub length-block : (d : Disk) (b : ℕ) → length (blocks_of d b) ≡ 512
length-block (Whole s) b = length-blocks_in (pages.kept s.pages (b / 8)) (b % 8)
length-block (Backed s) b = length-contents s.store b
