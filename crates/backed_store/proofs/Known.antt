-- What is known of pages stays where one gets a slot of which nothing is known.
use Rattle.std.proofs.Common.{◌≡◌, ℕ, Bool, true, false, IsTrue, Option, Some, None, nat_eq, if◌then◌else◌, refl, sym, ◌∙◌, ap}
use Rattle.std.specs.Option.{option_map}
use Rattle.backed_store.specs.Changed.{unknown}
use Rattle.backed_store.specs.Known.{IsKnown}
use Rattle.backed_store.specs.Marks.{state_of, is_wanted, is_reading, is_coming, is_listed, has_room, number_of, again_of}
use Rattle.backed_store.specs.Slots.{slot_at, mark_at, bytes_of, bytes_at}
use Rattle.backed_store.specs.declared.mark.Mark.{Mark}
use Rattle.backed_store.specs.declared.slot.Slot.{Slot}
use Rattle.backed_store.specs.declared.slots.Slots.{Slots}

abbrev mark_of : Option Slot → Option Mark
mark_of slot = option_map (λ x. x.mark) slot

module _ (old new : Slots) (page : ℕ) (slot : Slot) (is : slot.mark ≡ unknown) (none : (p : ℕ) → nat_eq page p ≡ true → mark_at old p ≡ None)
    (put : (p : ℕ) → slot_at new p ≡ (if nat_eq page p then Some slot else slot_at old p)) where
  here : (p : ℕ) → nat_eq page p ≡ true → mark_at new p ≡ Some unknown
  here p same =
      let now : slot_at new p ≡ Some slot = put p ∙ rw same refl in
      ap mark_of now ∙ ap (λ (m : Mark). Some m) is

  there : (p : ℕ) → nat_eq page p ≡ false → slot_at new p ≡ slot_at old p
  there p apart = put p ∙ rw apart refl

  each : {A : Type 0} (word : Option Mark → A) → word (Some unknown) ≡ word None → (p : ℕ) → word (mark_at new p) ≡ word (mark_at old p)
  each word alike p = by_test (nat_eq page p) refl
    where
      by_test : (t : Bool) → nat_eq page p ≡ t → word (mark_at new p) ≡ word (mark_at old p)
      by_test true same = ap word (here p same) ∙ alike ∙ sym (ap word (none p same))
      by_test false apart = ap (λ (s : Option Slot). word (mark_of s)) (there p apart)

  kept : (p : ℕ) → IsTrue (state_of (mark_at old p)).held → bytes_at new p ≡ bytes_at old p
  kept p held = by_test (nat_eq page p) refl
    where
      by_test : (t : Bool) → nat_eq page p ≡ t → bytes_at new p ≡ bytes_at old p
      by_test true same =
          let never : false ≡ true = sym (ap (λ (m : Option Mark). (state_of m).held) (none p same)) ∙ held in
          cc
      by_test false apart = ap bytes_of (there p apart)

  pub known-added : IsKnown old new
  known-added = record {
    states = each state_of refl;
    wanted = each is_wanted refl;
    reading = each is_reading refl;
    coming = each is_coming refl;
    listed = each is_listed refl;
    number = each number_of refl;
    again = each again_of refl;
    room = each has_room refl;
    bytes = kept;
  }

-- nothing changed
pub known-same : (old new : Slots) → ((p : ℕ) → slot_at new p ≡ slot_at old p) → IsKnown old new
known-same old new same = record {
  states = λ p. ap (λ (s : Option Slot). state_of (option_map (λ x. x.mark) s)) (same p);
  wanted = λ p. ap (λ (s : Option Slot). is_wanted (option_map (λ x. x.mark) s)) (same p);
  reading = λ p. ap (λ (s : Option Slot). is_reading (option_map (λ x. x.mark) s)) (same p);
  coming = λ p. ap (λ (s : Option Slot). is_coming (option_map (λ x. x.mark) s)) (same p);
  listed = λ p. ap (λ (s : Option Slot). is_listed (option_map (λ x. x.mark) s)) (same p);
  number = λ p. ap (λ (s : Option Slot). number_of (option_map (λ x. x.mark) s)) (same p);
  again = λ p. ap (λ (s : Option Slot). again_of (option_map (λ x. x.mark) s)) (same p);
  room = λ p. ap (λ (s : Option Slot). has_room (option_map (λ x. x.mark) s)) (same p);
  bytes = λ p held. ap bytes_of (same p);
}
