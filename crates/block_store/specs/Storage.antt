-- What the host's storage has of a disk whose pages come and go.
use Rattle.std.specs.Prelude.{ℕ, ◌≡◌, ◌⊎◌, ◌<◌, ◌+◌, ◌*◌, ◌/◌, ◌%◌, ◌==◌, ◌++◌, ◌||◌, ◌&&◌, not, Bool, true, false, List, [], ◌∷◌, Contains, Option, Some, nat_lt, if◌then◌else◌}
use Rattle.block_store.specs.Blocks.{Blocks, nth_block, zero_block}
use Rattle.block_store.specs.Pages.{blocks_in}

-- the blocks as the host was last given them, those that its storage has, as far as the host said, and what else it may have of
-- each block: all that the host was given of it since it said that it wrote the page
pub record Storage : Type 0 where
  pub given : Blocks
  pub kept : Blocks
  pub unkept : ℕ → List (List ℕ)

-- own: the host takes the bytes of a page to write them; it says that it wrote the page as it was last given it, so that a
-- crash leaves it; it says that it can't read the page; that it can't write it; it hands in the bytes of the page; it cuts its
-- storage off at a block
pub data Dealing : Type 0 where
  Give : ℕ → List ℕ → Dealing
  Keep : ℕ → Dealing
  Lose : ℕ → Dealing
  Deny : ℕ → Dealing
  Load : ℕ → Dealing
  Cut : ℕ → Dealing

-- with the blocks of page p that `from` has
abbrev pub with_page : ℕ → Blocks → Blocks → Blocks
with_page p from blocks b = if b / 8 == p then from b else blocks b

-- with zeros from block n on
abbrev pub cut : ℕ → Blocks → Blocks
cut n blocks b = if nat_lt b n then blocks b else zero_block

abbrev pub dealt : Dealing → Storage → Storage
dealt (Dealing.Give p bytes) s =
    record s {
      given = with_page p (λ b. blocks_in bytes (b % 8)) s.given;
      unkept = λ b. if b / 8 == p then blocks_in bytes (b % 8) ∷ s.unkept b else s.unkept b;
    }
dealt (Dealing.Keep p) s =
    record s { kept = with_page p s.given s.kept; unkept = λ b. if b / 8 == p then [] else s.unkept b }
dealt (Dealing.Lose p) s = s
dealt (Dealing.Deny p) s = s
dealt (Dealing.Load p) s = s
dealt (Dealing.Cut n) s =
    record { given = cut n s.given; kept = cut n s.kept; unkept = λ b. if nat_lt b n then s.unkept b else [] }

-- once all of this was done, the first of it first
abbrev pub all_dealt : List Dealing → Storage → Storage
all_dealt [] s = s
all_dealt (d ∷ more) s = all_dealt more (dealt d s)

-- a storage that has these bytes, end to end; what they lack is zeros
abbrev pub opening : List ℕ → Storage
opening bytes = record { given = λ b. blocks_in bytes b; kept = λ b. blocks_in bytes b; unkept = λ b. [] }

-- own: the bytes that a storage had at the opening, and what was done with it since, the first of it first
pub record Ledger : Type 0 where
  pub content : List ℕ
  pub dealings : List Dealing

-- own: what the storage has by that
abbrev pub storage_by : Ledger → Storage
storage_by l = all_dealt l.dealings (opening l.content)

-- what a crash leaves: of each block what the host last said that its storage keeps, or any of what it was given of it since
abbrev pub IsLeft : Ledger → Blocks → Type 0
IsLeft l left = (b : ℕ) → (left b ≡ (storage_by l).kept b) ⊎ Contains ((storage_by l).unkept b) (left b)

-- own: with one more
abbrev pub and_then : Dealing → Ledger → Ledger
and_then d l = record l { dealings = l.dealings ++ d ∷ [] }

-- own: whether page p is lost once this was done: the host can read a page that it hands in, and one that it wrote
abbrev pub lost_after : ℕ → Bool → Dealing → Bool
lost_after p was (Dealing.Lose q) = was || p == q
lost_after p was (Dealing.Load q) = was && not (p == q)
lost_after p was (Dealing.Keep q) = was && not (p == q)
lost_after p was d = was

-- own: once all of this was done, the first of it first
abbrev pub lost_by : ℕ → Bool → List Dealing → Bool
lost_by p was [] = was
lost_by p was (d ∷ more) = lost_by p (lost_after p was d) more

-- own: the host's last word of reading page p is that it can't
abbrev pub is_lost : ℕ → Ledger → Bool
is_lost p l = lost_by p false l.dealings

-- own: there is a storage, and the host said so of it
abbrev pub IsLostIn : Option Ledger → ℕ → Type 0
IsLostIn storage p = (l : Ledger) × (storage ≡ Some l) × (is_lost p l ≡ true)

-- own: whether page p is denied once this was done: the host can write a page that it wrote, and has none behind the end
abbrev pub denied_after : ℕ → Bool → Dealing → Bool
denied_after p was (Dealing.Deny q) = was || p == q
denied_after p was (Dealing.Keep q) = was && not (p == q)
denied_after p was (Dealing.Cut n) = was && nat_lt (8 * p) n
denied_after p was d = was

-- own: once all of this was done, the first of it first
abbrev pub denied_by : ℕ → Bool → List Dealing → Bool
denied_by p was [] = was
denied_by p was (d ∷ more) = denied_by p (denied_after p was d) more

-- own: the host's last word of writing page p is that it can't
abbrev pub is_denied : ℕ → Ledger → Bool
is_denied p l = denied_by p false l.dealings

-- own: there is a storage, and the host said so of it
abbrev pub IsDeniedIn : Option Ledger → ℕ → Type 0
IsDeniedIn storage p = (l : Ledger) × (storage ≡ Some l) × (is_denied p l ≡ true)

-- the bytes are the 8 blocks of page p
abbrev pub IsPageOf : Blocks → ℕ → List ℕ → Type 0
IsPageOf blocks p bytes = (k : ℕ) → k < 8 → nth_block bytes k ≡ blocks (8 * p + k)
