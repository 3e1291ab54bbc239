-- What a driver does once a device asked it for notifications.
use Rattle.std.proofs.Common.{◌≡◌, ℕ, zero, suc, ◌+◌, ◌*◌, ◌/◌, ◌%◌, Bool, cond, mod-lt, ◌<◌, ◌≤◌, List, [], ◌∷◌, ◌++◌, length, take, drop, ◌==◌, ◌&&◌, not, true, false, ◌⊎◌, inl, inr, refl, sym, ap, ◌∙◌, arith}
use Rattle.std.proofs.lemmas.Bool.Decides.{nat_tests}
use Rattle.std.proofs.lemmas.List.{length-take-le, drop-drop}
use Rattle.std.proofs.Math.Seq.{drop-append_seam}
use Rattle.byteorder.specs.Endian.{little_number, little_bytes}
use Rattle.byteorder.specs.Numbers.{little_number-reads_back}
use Rattle.guest_mem.specs.Memory.{bytes_at, with_bytes}
use Rattle.guest_mem.proofs.Slices.{other_bytes}
use Rattle.ring_core.specs.State.{RingState}
use Rattle.ring_core.specs.Split.{available_index}
use Rattle.ring_core.specs.Packed.{available_place, names_one, is_named, wrap_counter}
use Rattle.ring_core.specs.Writes.{all_written}
use Rattle.ring_core.specs.Asking.{wanted_index, used_ring_flags, wanted_slot, suppression_flags, split_asking, split_notifies, packed_asking, packed_notifies, avail_event_at}
use Rattle.ring_core.specs.declared.asking.Notify.{Notify}
use Rattle.ring_core.specs.declared.asking.Notify.TheVariants.{Next, Never}

-- from the address of a write on, memory has its bytes and then what was there
from_written : (m : List ℕ) (a : ℕ) (bs : List ℕ) → a ≤ length m → drop a (with_bytes m a bs) ≡ bs ++ drop (length bs) (drop a m)
from_written m a bs inside =
    let front : length (take a m) ≡ a = length-take-le a m inside in
    let rest = bs ++ drop (length bs) (drop a m) in
    ap (λ (k : ℕ). drop k (take a m ++ rest)) (sym front) ∙ drop-append_seam (take a m) rest

-- the number that was written there in two bytes, and the one behind it
first_number : (m : List ℕ) (a p : ℕ) (rest : List ℕ) → a ≤ length m → p < 65536
    → little_number 2 (bytes_at (with_bytes m a (little_bytes 2 p ++ rest)) a 2) ≡ p
first_number m a p rest inside small =
    ap (λ (ys : List ℕ). little_number 2 (take 2 ys)) (from_written m a (little_bytes 2 p ++ rest) inside)
    ∙ little_number-reads_back 2 p [] small

second_number : (m : List ℕ) (a p q : ℕ) → a ≤ length m → q < 65536
    → little_number 2 (bytes_at (with_bytes m a (little_bytes 2 p ++ little_bytes 2 q)) (a + 2) 2) ≡ q
second_number m a p q inside small =
    let w = with_bytes m a (little_bytes 2 p ++ little_bytes 2 q) in
    ap (λ (ys : List ℕ). little_number 2 (take 2 ys)) (sym (drop-drop 2 a w))
    ∙ ap (λ (ys : List ℕ). little_number 2 (take 2 (drop 2 ys))) (from_written m a (little_bytes 2 p ++ little_bytes 2 q) inside)
    ∙ little_number-reads_back 2 q [] small

-- In a split queue:

fits : (d n l : ℕ) → d + 6 + 8 * n ≤ l → (d + 4 + 8 * n + 2 ≤ l) × (d + 2 ≤ l)
fits d n l inside = let a : d + 4 + 8 * n + 2 ≤ l = omega (arith, inside) in let b : d + 2 ≤ l = omega (arith, inside) in (a, b)

small_index : (n : ℕ) → n % 65536 < 65536
small_index n = omega arith

same : (n : ℕ) → (n == n) ≡ true
same n = grind (arith, nat_tests)

pub next_of_split : (s : RingState) (m : List ℕ) → s.layout.device + 6 + 8 * s.layout.size ≤ length m
    → split_notifies s (all_written m (split_asking s Next ∷ [])) (available_index s) ≡ true
next_of_split s m inside = by_index s.features.event_index refl
  where
    by_index : (agreed : Bool) → s.features.event_index ≡ agreed
        → split_notifies s (all_written m (split_asking s Next ∷ [])) (available_index s) ≡ true
    by_index true is =
        let at = avail_event_at s.layout in
        let read : little_number 2 (bytes_at (with_bytes m at (little_bytes 2 (available_index s))) at 2) ≡ available_index s =
        first_number m at (available_index s) [] (omega (arith, inside)) (small_index (s.layout.first_available.index + length s.log.accepted)) in
        rw (is, read) (same (available_index s))
    by_index false is =
        let read : little_number 2 (bytes_at (with_bytes m s.layout.device (little_bytes 2 0)) s.layout.device 2) ≡ 0 =
        first_number m s.layout.device 0 [] (omega (arith, inside)) (omega arith) in
        rw (is, read) refl

before_next : (n k : ℕ) → k < 65535 → ((n % 65536 + 65535) % 65536 == (n % 65536 + k) % 65536) ≡ false
before_next n k lt =
    let differ : (n % 65536 + 65535) % 65536 ≡ (n % 65536 + k) % 65536 → ⊥ = λ e. omega (arith, e) in
    grind (arith, nat_tests)

pub never_of_split : (s : RingState) (m : List ℕ) (k : ℕ) → s.layout.device + 6 + 8 * s.layout.size ≤ length m → k < 65535
    → split_notifies s (all_written m (split_asking s Never ∷ [])) ((available_index s + k) % 65536) ≡ false
never_of_split s m k inside lt = by_index s.features.event_index refl
  where
    by_index : (agreed : Bool) → s.features.event_index ≡ agreed
        → split_notifies s (all_written m (split_asking s Never ∷ [])) ((available_index s + k) % 65536) ≡ false
    by_index true is =
        let at = avail_event_at s.layout in
        let index = (available_index s + 65535) % 65536 in
        let read : little_number 2 (bytes_at (with_bytes m at (little_bytes 2 index)) at 2) ≡ index =
        first_number m at index [] (omega (arith, inside)) (small_index (available_index s + 65535)) in
        rw (is, read) (before_next (s.layout.first_available.index + length s.log.accepted) k lt)
    by_index false is =
        let read : little_number 2 (bytes_at (with_bytes m s.layout.device (little_bytes 2 1)) s.layout.device 2) ≡ 1 =
        first_number m s.layout.device 1 [] (omega (arith, inside)) (omega arith) in
        rw (is, read) refl

pub used_of_split : (s : RingState) (m : List ℕ) (n : Notify) → s.layout.device + 6 + 8 * s.layout.size ≤ length m
    → bytes_at (all_written m (split_asking s n ∷ [])) (s.layout.device + 2) (2 + 8 * s.layout.size)
    ≡ bytes_at m (s.layout.device + 2) (2 + 8 * s.layout.size)
used_of_split s m n inside = by_index s.features.event_index refl
  where
    by_index : (agreed : Bool) → s.features.event_index ≡ agreed
        → bytes_at (all_written m (split_asking s n ∷ [])) (s.layout.device + 2) (2 + 8 * s.layout.size)
        ≡ bytes_at m (s.layout.device + 2) (2 + 8 * s.layout.size)
    by_index true is =
        rw is
        (other_bytes m (avail_event_at s.layout) (little_bytes 2 (wanted_index s n)) (s.layout.device + 2) (2 + 8 * s.layout.size)
        (omega (arith, inside)) (inl (omega arith)))
    by_index false is =
        rw is
        (other_bytes m s.layout.device (little_bytes 2 (used_ring_flags n)) (s.layout.device + 2) (2 + 8 * s.layout.size)
        (omega (arith, inside)) (inr (omega arith)))

-- In a packed one:

-- an offset and wrap name the slot that they are of
named_there : (x : ℕ) (w : Bool) → x < 32768
    → ((x == (x + cond w 32768 0) % 32768) && cond ((x + cond w 32768 0) / 32768 == 1) w (not w)) ≡ true
named_there x true lt =
    let a : (x + 32768) % 32768 ≡ x = omega arith in
    let b : (x + 32768) / 32768 ≡ 1 = omega arith in
    rw (a, b) (grind (arith, nat_tests))
named_there x false lt =
    let a : (x + 0) % 32768 ≡ x = omega arith in
    let b : (x + 0) / 32768 ≡ 0 = omega arith in
    rw (a, b) (grind (arith, nat_tests))

-- a chain that begins at a named slot has it
named_first : (size offset_wrap t n : ℕ) → is_named size offset_wrap t ≡ true → names_one size offset_wrap t (suc n) ≡ true
unfolding names_one
named_first size offset_wrap t zero is = let e : t + 0 ≡ t = omega arith in rw e is
named_first size offset_wrap t (suc n) is = rw (named_first size offset_wrap t n is) refl

below : (x : ℕ) (w : Bool) → x < 32768 → x + cond w 32768 0 < 65536
below x true lt = omega arith
below x false lt = omega arith

pub next_of_packed : (s : RingState) (m : List ℕ) (slots : ℕ) → 0 < s.layout.size → s.layout.size ≤ 32768
    → s.layout.device + 4 ≤ length m → 0 < slots
    → packed_notifies s (all_written m (packed_asking s Next ∷ [])) (available_place s) slots ≡ true
next_of_packed s m zero some most inside any = absurd (omega (arith, any))
next_of_packed s m (suc n) some most inside any = by_index s.features.event_index refl
  where
    at : ℕ
    at = s.layout.device

    t : ℕ
    t = available_place s

    x : ℕ
    x = t % s.layout.size

    w : Bool
    w = wrap_counter s.layout.size t

    by_index : (agreed : Bool) → s.features.event_index ≡ agreed
        → packed_notifies s (all_written m (packed_asking s Next ∷ [])) (available_place s) (suc n) ≡ true
    by_index true is =
        let lt : x < 32768 = omega (arith, mod-lt t some, most) in
        let offset_wrap = x + cond w 32768 0 in
        let offset : little_number 2 (bytes_at (with_bytes m at (little_bytes 2 offset_wrap ++ little_bytes 2 2)) at 2) ≡ offset_wrap =
        first_number m at offset_wrap (little_bytes 2 2) (omega (arith, inside)) (below x w lt) in
        let flags : little_number 2 (bytes_at (with_bytes m at (little_bytes 2 offset_wrap ++ little_bytes 2 2)) (at + 2) 2) ≡ 2 =
        second_number m at offset_wrap 2 (omega (arith, inside)) (omega arith) in
        rw (is, flags, offset) (named_first s.layout.size offset_wrap t n (named_there x w lt))
    by_index false is =
        let flags : little_number 2 (bytes_at (with_bytes m at (little_bytes 2 0 ++ little_bytes 2 0)) (at + 2) 2) ≡ 0 =
        second_number m at 0 0 (omega (arith, inside)) (omega arith) in
        rw (is, flags) refl

pub never_of_packed : (s : RingState) (m : List ℕ) (t slots : ℕ) → s.layout.device + 4 ≤ length m
    → packed_notifies s (all_written m (packed_asking s Never ∷ [])) t slots ≡ false
never_of_packed s m t slots inside = by_index s.features.event_index refl
  where
    at : ℕ
    at = s.layout.device

    flags : little_number 2 (bytes_at (with_bytes m at (little_bytes 2 0 ++ little_bytes 2 1)) (at + 2) 2) ≡ 1
    flags = second_number m at 0 1 (omega (arith, inside)) (omega arith)

    by_index : (agreed : Bool) → s.features.event_index ≡ agreed
        → packed_notifies s (all_written m (packed_asking s Never ∷ [])) t slots ≡ false
    by_index true is = rw (is, flags) refl
    by_index false is = rw (is, flags) refl

pub beside_packed : (s : RingState) (m : List ℕ) (n : Notify) (at count : ℕ) → s.layout.device + 4 ≤ length m
    → (at + count ≤ s.layout.device) ⊎ (s.layout.device + 4 ≤ at)
    → bytes_at (all_written m (packed_asking s n ∷ [])) at count ≡ bytes_at m at count
beside_packed s m n at count inside apart =
    other_bytes m s.layout.device (little_bytes 2 (wanted_slot s n) ++ little_bytes 2 (suppression_flags s.features n)) at count inside apart
