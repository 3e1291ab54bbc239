-- What the host's storage has of a store.
use Rattle.std.proofs.Common.{◌≡◌, ℕ, ◌/◌, ◌%◌, ◌==◌, ◌≤◌, ◌&&◌, nat_le, Bool, true, false, IsTrue, List, if◌then◌else◌, refl, sym, ◌∙◌, arith}
use Rattle.std.proofs.lemmas.Bool.Decides.{nat_tests}
use Rattle.block_store.specs.Blocks.{nth_block}
use Rattle.backed_store.specs.Marks.{State, state_of, is_clean, number_of, has_room}
use Rattle.backed_store.specs.Marks as marks
use Rattle.backed_store.specs.Caches.{state_at, bytes_at}
use Rattle.backed_store.specs.Sets.{has_at}
use Rattle.backed_store.specs.Slots.{mark_at}
use Rattle.backed_store.specs.Standing.{AreIndexed}
use Rattle.backed_store.specs.Stores.{contents, backing_of, is_dirty}
use Rattle.backed_store.proofs.Over.{and-left}
use Rattle.backed_store.specs.declared.backed.BackedStore.{BackedStore}
use Rattle.backed_store.specs.declared.slots.Slots.{Slots}
use Rattle.backed_store.specs.declared.queue.PageQueue.{PageQueue}
use Rattle.backed_store.specs.declared.page_set.PageSet.{PageSet}
use Rattle.backed_store.specs.declared.unkept.Unkept.{Unkept}

-- a test that never passes
pub never-passes : (b : Bool) → (b ≡ true → ⊥) → b ≡ false
never-passes true never = absurd (never refl)
never-passes false _ = refl

-- a page that is dirty stands among the changes
pub dirty-stands : (s : Slots) (asking : PageQueue) (unkept : Unkept) (clean : PageSet) (latest : ℕ) →
    AreIndexed s asking unkept clean latest →
    (p : ℕ) → IsTrue (marks.is_dirty (state_of (mark_at s p))) → IsTrue (has_at unkept.changes (number_of (mark_at s p)) p)
dirty-stands s asking unkept clean latest all p is =
    let room : has_room (mark_at s p) ≡ true = all.dirty p is in
    let same : (number_of (mark_at s p) == number_of (mark_at s p)) ≡ true = grind (arith, nat_tests) in
    all.changes (number_of (mark_at s p)) p ∙ rw (room, same) refl

-- a page that owes a change stands among the changes, with an older one
pub owing-stands : (s : Slots) (asking : PageQueue) (unkept : Unkept) (clean : PageSet) (latest : ℕ) →
    AreIndexed s asking unkept clean latest →
    (n p : ℕ) → (has_room (mark_at s p) && nat_le (number_of (mark_at s p)) n) ≡ true →
    IsTrue (has_at unkept.changes (number_of (mark_at s p)) p) × (number_of (mark_at s p) ≤ n)
owing-stands s asking unkept clean latest all n p owes =
    let room : has_room (mark_at s p) ≡ true = and-left _ _ owes in
    let same : (number_of (mark_at s p) == number_of (mark_at s p)) ≡ true = grind (arith, nat_tests) in
    (all.changes (number_of (mark_at s p)) p ∙ rw (room, same) refl, grind (arith, nat_tests, owes))

-- a page that isn't dirty is as the storage has it
pub as-kept : (state : State) (bytes : List ℕ) (kept : List ℕ) (k : ℕ) → marks.is_dirty state ≡ false → (IsTrue (is_clean state) →
    kept ≡ nth_block bytes k) →
    (if state.held then nth_block bytes k else kept) ≡ kept
as-kept state bytes kept k same clean = by_test state.held state.dirty refl refl
  where
    by_test : (held dirty : Bool) → state.held ≡ held → state.dirty ≡ dirty → (if held then nth_block bytes k else kept) ≡ kept
    by_test false dirty there is = refl
    by_test true false there is = sym (clean (rw (there, is) refl))
    by_test true true there is = let never = rw (there, is) at same in let no : true ≡ false = never in cc

pub contents-kept : (s : BackedStore) (b : ℕ) → is_dirty s (b / 8) ≡ false → contents s b ≡ backing_of s b
contents-kept s b same = as-kept (state_at s.cache (b / 8)) (bytes_at s.cache (b / 8)) (backing_of s b) (b % 8) same (s.clean b)
