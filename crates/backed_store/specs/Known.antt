-- What is known of pages stays.
use Rattle.std.specs.Prelude.{◌≡◌, ℕ, IsTrue}
use Rattle.backed_store.specs.declared.slots.Slots.{Slots}
use Rattle.backed_store.specs.Marks.{state_of, is_wanted, is_reading, is_coming, is_listed, has_room, number_of, again_of}
use Rattle.backed_store.specs.Slots.{mark_at, bytes_at}

pub record IsKnown (old new : Slots) : Type 0 where
  pub states : (p : ℕ) → state_of (mark_at new p) ≡ state_of (mark_at old p)
  pub wanted : (p : ℕ) → is_wanted (mark_at new p) ≡ is_wanted (mark_at old p)
  pub reading : (p : ℕ) → is_reading (mark_at new p) ≡ is_reading (mark_at old p)
  pub coming : (p : ℕ) → is_coming (mark_at new p) ≡ is_coming (mark_at old p)
  pub listed : (p : ℕ) → is_listed (mark_at new p) ≡ is_listed (mark_at old p)
  pub number : (p : ℕ) → number_of (mark_at new p) ≡ number_of (mark_at old p)
  pub again : (p : ℕ) → again_of (mark_at new p) ≡ again_of (mark_at old p)
  pub room : (p : ℕ) → has_room (mark_at new p) ≡ has_room (mark_at old p)
  pub bytes : (p : ℕ) → IsTrue (state_of (mark_at old p)).held → bytes_at new p ≡ bytes_at old p
