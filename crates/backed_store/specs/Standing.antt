-- Pages stand where their marks say.
use Rattle.std.specs.Prelude.{◌≡◌, ℕ, ◌≤◌, ◌==◌, ◌&&◌, IsTrue}
use Rattle.backed_store.specs.declared.slots.Slots.{Slots}
use Rattle.backed_store.specs.declared.queue.PageQueue.{PageQueue}
use Rattle.backed_store.specs.declared.page_set.PageSet.{PageSet}
use Rattle.backed_store.specs.declared.unkept.Unkept.{Unkept}
use Rattle.backed_store.specs.Marks.{state_of, is_clean, is_dirty, is_rewritten, is_wanted, is_listed, has_room, number_of, again_of}
use Rattle.backed_store.specs.Slots.{mark_at}
use Rattle.backed_store.specs.Queues.{stands}
use Rattle.backed_store.specs.Sets.{has, has_at}

pub record AreIndexed (slots : Slots) (asking : PageQueue) (unkept : Unkept) (clean : PageSet) (latest : ℕ) : Type 0 where
  pub wanted : (p : ℕ) → IsTrue (is_wanted (mark_at slots p)) → IsTrue (stands asking p)
  pub listed : (p : ℕ) → IsTrue (is_listed (mark_at slots p)) → IsTrue (stands unkept.unwritten p)
  pub dirty : (p : ℕ) → IsTrue (is_dirty (state_of (mark_at slots p))) → IsTrue (has_room (mark_at slots p))
  pub owed : (p : ℕ) → has unkept.pages p ≡ has_room (mark_at slots p)
  pub changes : (n p : ℕ) → has_at unkept.changes n p ≡ (has_room (mark_at slots p) && n == number_of (mark_at slots p))
  pub idle : (p : ℕ) → has clean p ≡ is_clean (state_of (mark_at slots p))
  pub numbers : (p : ℕ) → number_of (mark_at slots p) ≤ latest
  pub again : (p : ℕ) → again_of (mark_at slots p) ≤ latest
  -- what the host was given is in memory, and what changed since is no older than what it was given for
  pub given : (p : ℕ) → IsTrue (state_of (mark_at slots p)).writing → IsTrue (state_of (mark_at slots p)).held
  pub later : (p : ℕ) → IsTrue (is_rewritten (state_of (mark_at slots p))) → number_of (mark_at slots p) ≤ again_of (mark_at slots p)
