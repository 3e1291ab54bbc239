-- What a store leaves of memory, and that memory may be something.
use Rattle.std.proofs.Common.{◌≡◌, ℕ, ◌+◌, ◌-◌, ◌<◌, ◌≤◌, List, ◌∷◌, ◌++◌, length, take, drop, get_or, refl, sym, ap, ◌∙◌, arith, inl, inr, map}
use Rattle.std.proofs.lemmas.Bool.{cases_lt}
use Rattle.std.proofs.lemmas.List.{length-take-le, length-drop, length-append, get_or_past}
use Rattle.std.proofs.lemmas.List.FromFn.{get_or-map-range_with_len, length-map-range_with_len}
use Rattle.std.specs.List.{range_with_len}
use Rattle.guest_mem.specs.Memory.{with_bytes}
use Rattle.live_mem.specs.Access.{Access, Stores, loaded, stored, AreBytes, Agrees, MayBe}
use Rattle.live_mem.proofs.Over.{with_below, with_in, with_above}
use Rattle.live_mem.proofs.Reading.{again}

-- a write keeps the size
pub length_with : (m : List ℕ) (x : ℕ) (bs : List ℕ) → x + length bs ≤ length m → length (with_bytes m x bs) ≡ length m
length_with m x bs le = omega (arith, length-append (take x m) (bs ++ drop (length bs) (drop x m)), length-append bs (drop (length bs) (drop x m)), length-take-le x m (omega arith), length-drop (length bs) (drop x m), length-drop x m)

-- a write of bytes leaves bytes
pub bytes_with : (m : List ℕ) (x : ℕ) (bs : List ℕ) → x ≤ length m → AreBytes m → AreBytes bs → AreBytes (with_bytes m x bs)
bytes_with m x bs le old new = λ k.
    elim (cases_lt k x) [
      | inl low ↦ rw (with_below m x bs k le low) (old k)
      | inr from ↦ elim (cases_lt k (x + length bs)) [
        | inl in_it ↦ rw (with_in m x bs k le from in_it) (new (k - x))
        | inr high ↦ rw (with_above m x bs k le high) (old k)
      ]
    ]

-- memory is what it may have been before a store, with the store
pub before_store : (size : ℕ) (log new_log : List Access) (addr : ℕ) (bs m : List ℕ) → new_log ≡ Stores addr bs ∷ log
    → ((m : List ℕ) → length m ≡ size → length (stored log m) ≡ size) → ((m : List ℕ) → length m ≡ size → AreBytes m → AreBytes (stored log m))
    → MayBe size new_log m → (before : List ℕ) × MayBe size log before × (m ≡ with_bytes before addr bs)
before_store size log new_log addr bs m is sized bytes may =
    let now : MayBe size (Stores addr bs ∷ log) m = rw is at may in
    let agrees : Agrees size log now.0 = record { sized = now.1.sized; bytes = now.1.bytes; there = λ p lt. now.1.there p lt } in
    (stored log now.0, (now.0, agrees, refl, sized now.0 now.1.sized, bytes now.0 now.1.sized now.1.bytes), now.2)

-- it may be something
module _ (size : ℕ) (log : List Access) (small : (p d : ℕ) → d < 256 → loaded log p d < 256) where
  abbrev some : List ℕ
  some = map (λ (p : ℕ). loaded log p 0) (range_with_len 0 size)

  some_at : (p : ℕ) → p < size → get_or some p 0 ≡ loaded log p 0
  some_at p lt = get_or-map-range_with_len (λ (q : ℕ). loaded log q 0) 0 size p p 0 lt (omega arith)

  there : (p : ℕ) → p < size → loaded log p (get_or some p 0) ≡ get_or some p 0
  there p lt = ap (loaded log p) (some_at p lt) ∙ again log p 0 ∙ sym (some_at p lt)

  long : length some ≡ size
  long = length-map-range_with_len (λ (p : ℕ). loaded log p 0) 0 size

  bytes_of : AreBytes some
  bytes_of k =
      elim (cases_lt k size) [
        | inl lt ↦ rw (some_at k lt) (small k 0 (omega arith))
        | inr le ↦ rw (get_or_past some k 0 (omega (arith, long, le))) (omega arith)
      ]

  pub some_memory : ((m : List ℕ) → length m ≡ size → length (stored log m) ≡ size) → ((m : List ℕ) → length m ≡ size → AreBytes m → AreBytes (stored log m)) → (m : List ℕ) × MayBe size log m
  some_memory sized bytes = (stored log some, (some, record { sized = long; bytes = bytes_of; there = there }, refl, sized some long, bytes some long bytes_of))
