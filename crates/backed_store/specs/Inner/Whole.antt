-- A block of a backed store is whole.
use Rattle.std.proofs.Common.{◌≡◌, ℕ, ◌/◌, ◌%◌, ◌<◌, ◌==◌, Bool, true, false, List, [], ◌∷◌, length, nat_lt, Option, Some, None, if◌then◌else◌, refl, arith}
use Rattle.std.specs.Option.{option_map}
use Rattle.block_store.specs.Blocks.{nth_block}
use Rattle.block_store.specs.Inner.Whole.{length-nth_block}
use Rattle.block_store.specs.Inner.Padding.{length-blocks_in, length-zero_block}
use Rattle.backed_store.specs.declared.dealing.Dealing.{Dealing}
use Rattle.backed_store.specs.declared.dealing.Dealing.TheVariants.{Given, Kept, Lost, Denied, Loaded, Cut}
use Rattle.block_store.specs.Storage.{Storage, opening}
use Rattle.backed_store.specs.Backing.{after, after_all}
use Rattle.backed_store.specs.Marks.{state_of}
use Rattle.backed_store.specs.Slots.{slot_at, bytes_of}
use Rattle.backed_store.specs.Caches.{bytes_at}
use Rattle.backed_store.specs.Stores.{contents, holds, backing_of}
use Rattle.backed_store.specs.declared.slot.Slot.{Slot}
use Rattle.backed_store.specs.declared.backed.BackedStore.{BackedStore}

-- each block has 512 bytes
abbrev pub AreWhole : Storage → Type 0
AreWhole h = ((b : ℕ) → length (h.given b) ≡ 512) × ((b : ℕ) → length (h.kept b) ≡ 512)

either : (test : Bool) (x y : List ℕ) → length x ≡ 512 → length y ≡ 512 → length (if test then x else y) ≡ 512
either true x y l r = l
either false x y l r = r

whole-after : (d : Dealing) (h : Storage) → AreWhole h → AreWhole (after d h)
whole-after (Given g) h whole = ((λ b. either (b / 8 == g.page) _ _ (length-blocks_in g.bytes.items (b % 8)) (whole.0 b)), whole.1)
whole-after (Cut n) h whole = ((λ b. either (nat_lt b n) _ _ (whole.0 b) length-zero_block), (λ b. either (nat_lt b n) _ _ (whole.1 b) length-zero_block))
whole-after (Kept p) h whole = (whole.0, (λ b. either (b / 8 == p) _ _ (whole.0 b) (whole.1 b)))
whole-after (Lost p) h whole = whole
whole-after (Denied p) h whole = whole
whole-after (Loaded p) h whole = whole

pub whole-all : (ds : List Dealing) (h : Storage) → AreWhole h → AreWhole (after_all ds h)
whole-all [] h whole = whole
whole-all (d ∷ more) h whole = whole-all more (after d h) (whole-after d h whole)

-- a slot's blocks are whole
length-slot : (slot : Option Slot) (k : ℕ) → k < 8 → (state_of (option_map (λ x. x.mark) slot)).held ≡ true → length (nth_block (bytes_of slot) k) ≡ 512
length-slot None k below never = let no : false ≡ true = never in cc
length-slot (Some slot) k below held = length-nth_block slot.bytes.items k (omega (arith, slot.full))

pub length-contents : (s : BackedStore) (b : ℕ) → length (contents s b) ≡ 512
length-contents s b = by_test (holds s b) refl
  where
    by_test : (test : Bool) → holds s b ≡ test → length (if test then nth_block (bytes_at s.cache (b / 8)) (b % 8) else backing_of s b) ≡ 512
    by_test true held = length-slot (slot_at s.cache.slots (b / 8)) (b % 8) (omega arith) held
    by_test false _ = (whole-all s.dealings.items (opening s.content.items) ((λ c. length-blocks_in s.content.items c), (λ c. length-blocks_in s.content.items c))).1 b
