-- What a read says of memory: its bytes, and all that was read before.
use Rattle.std.proofs.Common.{◌≡◌, ℕ, ◌+◌, ◌-◌, ◌<◌, ◌≤◌, List, [], ◌∷◌, length, take, drop, get_or, cond, true, false, Bool, refl, sym, ap, ◌∙◌, arith, ◌⊎◌, inl, inr}
use Rattle.std.proofs.lemmas.List.{ext_get_or, get_or-take, get_or-drop, length-take-le, length-drop}
use Rattle.guest_mem.specs.Memory.{bytes_at}
use Rattle.live_mem.specs.Access.{Access, Begins, Loads, Stores, spans, loaded, AreBytes, Agrees, MayBe, StoredNothing, Asks}
use Rattle.live_mem.specs.Inner.Access.{LoadsThere, ReadsThere}
use Rattle.live_mem.proofs.Spans.{In, Out, lies, within}

-- where no load has an address any byte stays; where one has it, it doesn't matter which stood there
pub free_or_loaded : (log : List Access) (p : ℕ) → ((d : ℕ) → loaded log p d ≡ d) ⊎ ((d e : ℕ) → loaded log p d ≡ loaded log p e)
free_or_loaded [] p = inl (λ d. refl)
free_or_loaded (Begins ∷ past) p = inl (λ d. refl)
free_or_loaded (Stores a bs ∷ past) p = free_or_loaded past p
free_or_loaded (Loads a bs ∷ past) p =
    elim (lies a (length bs) p) [
      | In l h e ↦ inr (λ x y. rw e refl)
      | Out e ↦ elim (free_or_loaded past p) [ inl f ↦ inl (λ d. rw e (f d)) | inr f ↦ inr (λ x y. rw e (f x y)) ]
    ]

pub again : (log : List Access) (p d : ℕ) → loaded log p (loaded log p d) ≡ loaded log p d
again log p d = elim (free_or_loaded log p) [ inl f ↦ f (loaded log p d) | inr f ↦ f (loaded log p d) d ]

-- a byte of these, or another
pub byte_in : (b : Bool) (bs : List ℕ) (k d : ℕ) → AreBytes bs → d < 256 → cond b (get_or bs k 0) d < 256
byte_in true bs k d all lt = all k
byte_in false bs k d all lt = lt

-- bytes that are those of memory, place by place
pub same_bytes : (m out : List ℕ) (addr size : ℕ) → length m ≡ size → addr + length out ≤ size → ((i : ℕ) → i < length out → get_or m (addr + i) 0 ≡ get_or out i 0) → out ≡ bytes_at m addr (length out)
same_bytes m out addr size sized inside are =
    let long : length (take (length out) (drop addr m)) ≡ length out = length-take-le (length out) (drop addr m) (omega (arith, length-drop addr m, sized, inside)) in
    ext_get_or 0 out (take (length out) (drop addr m)) (sym long) (λ i lt.
    let t : get_or (take (length out) (drop addr m)) i 0 ≡ get_or m (addr + i) 0 = get_or-take (length out) (drop addr m) i 0 lt ∙ get_or-drop addr m i 0 in
    sym (t ∙ are i lt))

-- a read that asked the bus
module _ (size size' : ℕ) (log log' : List Access) (addr : ℕ) (out m : List ℕ) (is_size : size' ≡ size) (inside : addr + length out ≤ size) (reading : StoredNothing log) (loads : LoadsThere log log' addr out) where
  pub loads_reading : StoredNothing log'
  loads_reading = rw loads.asked reading

  module _ (may : MayBe size' log' m) where
    now : MayBe size (Loads addr loads.fresh ∷ log) m
    now = rw (is_size, loads.asked) at may

    -- at an address of the read memory has what the read gave
    here : (i : ℕ) → i < length out → get_or now.0 (addr + i) 0 ≡ get_or out i 0
    here i lt =
        let there = now.1.there (addr + i) (omega (arith, lt, inside)) in
        let in_it : spans addr (length loads.fresh) (addr + i) ≡ true = within addr (length loads.fresh) (addr + i) (omega arith) (omega (arith, lt, loads.long)) in
        let n : addr + i - addr ≡ i = omega arith in
        sym (rw (in_it, n) at there) ∙ sym (loads.are i lt)

    pub loads_gives : out ≡ bytes_at m addr (length out)
    loads_gives =
        let e : m ≡ now.0 = now.2 ∙ reading now.0 in
        same_bytes now.0 out addr size now.1.sized inside here ∙ ap (λ (l : List ℕ). bytes_at l addr (length out)) (sym e)

    agrees : Agrees size log now.0
    agrees =
        record {
          sized = now.1.sized;
          bytes = now.1.bytes;
          there = λ p lt.
              let there = now.1.there p lt in
              let w : loaded log p (loaded log p (cond (spans addr (length loads.fresh) p) (get_or loads.fresh (p - addr) 0) (get_or now.0 p 0))) ≡ loaded log p (cond (spans addr (length loads.fresh) p) (get_or loads.fresh (p - addr) 0) (get_or now.0 p 0)) =
              again log p (cond (spans addr (length loads.fresh) p) (get_or loads.fresh (p - addr) 0) (get_or now.0 p 0)) in
              rw there at w;
        }

    pub loads_stays : MayBe size log m
    loads_stays = (now.0, agrees, now.2, now.3, now.4)

-- a read that asked for nothing
pub nothing_stays : (size size' : ℕ) (log log' : List Access) (m : List ℕ) → size' ≡ size → log' ≡ log → MayBe size' log' m → MayBe size log m
nothing_stays size size' log log' m is_size same may = rw (is_size, same) at may

-- a read that asked the bus, or for nothing since all that it gives was loaded before
pub reads_reading : (log log' : List Access) (addr : ℕ) (out : List ℕ) → StoredNothing log → ReadsThere log log' addr out → StoredNothing log'
reads_reading log log' addr out reading reads = elim reads [ inl loads ↦ rw loads.asked reading | inr known ↦ rw known.0 reading ]

pub reads_asks : (log log' : List Access) (addr : ℕ) (out : List ℕ) → ReadsThere log log' addr out → Asks log log' addr (length out)
reads_asks log log' addr out reads =
    elim reads [
      | inl loads ↦ inl (loads.fresh, loads.long, loads.asked)
      | inr known ↦
          inr (
            known.0,
            λ p l h x y.
                let n : addr + (p - addr) ≡ p = omega (arith, l) in
                let lt : p - addr < length out = omega (arith, l, h) in
                let one = known.1 (p - addr) x lt in
                let other = known.1 (p - addr) y lt in
                (rw n at one) ∙ sym (rw n at other),
          )
    ]

module _ (size size' : ℕ) (log log' : List Access) (addr : ℕ) (out m : List ℕ) (is_size : size' ≡ size) (inside : addr + length out ≤ size) (reading : StoredNothing log) (reads : ReadsThere log log' addr out) where
  module _ (may : MayBe size' log' m) where
    pub reads_stays : MayBe size log m
    reads_stays =
        elim reads [
          | inl loads ↦ loads_stays size size' log log' addr out m is_size inside reading loads may
          | inr known ↦ nothing_stays size size' log log' m is_size known.0 may
        ]

    known_gives : log' ≡ log → ((i d : ℕ) → i < length out → loaded log (addr + i) d ≡ get_or out i 0) → out ≡ bytes_at m addr (length out)
    known_gives same known =
        let now : MayBe size log m = nothing_stays size size' log log' m is_size same may in
        let e : m ≡ now.0 = now.2 ∙ reading now.0 in
        same_bytes now.0 out addr size now.1.sized inside (λ i lt. sym (now.1.there (addr + i) (omega (arith, lt, inside))) ∙ known i (get_or now.0 (addr + i) 0) lt)
        ∙ ap (λ (l : List ℕ). bytes_at l addr (length out)) (sym e)

    pub reads_gives : out ≡ bytes_at m addr (length out)
    reads_gives =
        elim reads [
          | inl loads ↦ loads_gives size size' log log' addr out m is_size inside reading loads may
          | inr known ↦ known_gives known.0 known.1
        ]
