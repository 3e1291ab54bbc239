-- Bytes over the writable parts of a chain, as stores: none, from one part to the next, and in two goes.
use Rattle.std.proofs.Common.{◌≡◌, ℕ, ◌+◌, ◌-◌, ◌<◌, ◌≤◌, List, [], ◌∷◌, ◌++◌, true, false, length, take, drop, refl, sym, ap, ◌∙◌, arith, append_assoc, append-nil, inl, inr, get_or, min}
use Rattle.std.proofs.Math.Nat.{min_comm}
use Rattle.std.proofs.lemmas.Bool.{cases_lt, lt-ltb, le-ltb}
use Rattle.std.proofs.lemmas.List.{drop_all, take_all, take-append-le, drop-append-le, length-drop, at_drop_more, drop_min}
use Rattle.guest_mem.specs.Stores.{Store, stores_at}
use Rattle.ring_core.specs.Writes.{Write, scatter_writes, stores_of}
use Rattle.ring_core.specs.declared.descriptor.Part.{Part}
use Rattle.ring_core.proofs.Scattering.{true_or_false, no_writes, take_over, drop_over}

abbrev pub in_stores : List Part → ℕ → List ℕ → List Store
in_stores parts at bs = stores_of (scatter_writes parts at bs)

pub stores_none : (parts : List Part) (at : ℕ) → in_stores parts at [] ≡ []
stores_none parts at = ap stores_of (no_writes parts at)

-- bytes that go on at their end
pub stores_behind : (x : ℕ) (a b : List ℕ) → stores_at x (a ++ b) ≡ stores_at x a ++ stores_at (x + length a) b
stores_behind x [] b = let e : x ≡ x + 0 = omega arith in ap (λ (y : ℕ). stores_at y b) e
stores_behind x (c ∷ a) b =
    let e : x + 1 + length a ≡ x + length (c ∷ a) = omega arith in
    ap (λ (ss : List Store). record { addr = x; byte = c } ∷ ss) (stores_behind (x + 1) a b ∙ ap (λ (y : ℕ). stores_at (x + 1) a ++ stores_at y b) e)

-- The first of some parts:
-- it is filled from a byte of it on
pub stores_into : (p : Part) (ps : List Part) (at : ℕ) (bs : List ℕ) → p.writable ≡ true → at < p.len
    → in_stores (p ∷ ps) at bs ≡ stores_at (p.addr + at) (take (p.len - at) bs) ++ in_stores ps 0 (drop (p.len - at) bs)
stores_into p ps at [] w lt =
    let t : take {A = ℕ} (p.len - at) [] ≡ [] = take_all (p.len - at) [] (omega arith) in
    let d : drop {A = ℕ} (p.len - at) [] ≡ [] = drop_all (p.len - at) [] (omega arith) in
    stores_none (p ∷ ps) at
    ∙ sym (
    ap (λ (bs : List ℕ). stores_at (p.addr + at) bs ++ in_stores ps 0 (drop (p.len - at) [])) t
    ∙ ap (λ (bs : List ℕ). in_stores ps 0 bs) d
    ∙ stores_none ps 0)
stores_into p ps at (b ∷ bs) w lt =
    let e : at - p.len ≡ 0 = omega arith in
    rw (w, lt-ltb at p.len lt, lt-ltb 0 (length (b ∷ bs)) (omega arith), e) refl

-- it lies before the bytes
pub stores_past : (p : Part) (ps : List Part) (at : ℕ) (bs : List ℕ) → p.writable ≡ true → p.len ≤ at → in_stores (p ∷ ps) at bs ≡ in_stores ps (at - p.len) bs
stores_past p ps at bs w le =
    let e : p.len - at ≡ 0 = omega arith in
    rw (w, le-ltb at p.len le, e) refl

-- it isn't writable
pub stores_over : (p : Part) (ps : List Part) (at : ℕ) (bs : List ℕ) → p.writable ≡ false → in_stores (p ∷ ps) at bs ≡ in_stores ps at bs
stores_over p ps at bs r = rw r refl

-- From one part to the next
module _ (ps : List Part) (i at : ℕ) (bs : List ℕ) (d : Part) (lt : i < length ps) where
  abbrev here : Part
  here = get_or ps i d

  first_of_rest : in_stores (drop i ps) at bs ≡ in_stores (here ∷ drop (i + 1) ps) at bs
  first_of_rest = at_drop_more (λ (qs : List Part). in_stores qs at bs) ps i d lt

  pub next_over : here.writable ≡ false → in_stores (drop i ps) at bs ≡ in_stores (drop (i + 1) ps) at bs
  next_over r = first_of_rest ∙ stores_over here (drop (i + 1) ps) at bs r

  pub next_past : here.writable ≡ true → here.len ≤ at → in_stores (drop i ps) at bs ≡ in_stores (drop (i + 1) ps) (at - here.len) bs
  next_past w le = first_of_rest ∙ stores_past here (drop (i + 1) ps) at bs w le

  pub next_into : (k : ℕ) → here.writable ≡ true → at < here.len → k ≡ min (length bs) (here.len - at)
      → in_stores (drop i ps) at bs ≡ stores_at (here.addr + at) (take (here.len - at) bs) ++ in_stores (drop (i + 1) ps) 0 (take (length bs - k) (drop k bs))
  next_into k w under many =
      let all : take (length bs - k) (drop k bs) ≡ drop k bs = take_all (length bs - k) (drop k bs) (omega (arith, length-drop k bs)) in
      let e : drop k bs ≡ drop (here.len - at) bs = ap (λ (l : ℕ). drop l bs) (many ∙ min_comm (length bs) (here.len - at)) ∙ drop_min (here.len - at) bs in
      first_of_rest ∙ stores_into here (drop (i + 1) ps) at bs w under
      ∙ ap (λ (r : List ℕ). stores_at (here.addr + at) (take (here.len - at) bs) ++ in_stores (drop (i + 1) ps) 0 r) (sym (all ∙ e))

-- in two goes
pub stores_in_two : (parts : List Part) (at : ℕ) (a b : List ℕ) → in_stores parts at a ++ in_stores parts (at + length a) b ≡ in_stores parts at (a ++ b)
stores_in_two [] at a b = refl
stores_in_two (p ∷ ps) at a b =
    elim (true_or_false p.writable) [
      | inr r ↦
          ap (λ (ss : List Store). ss ++ in_stores (p ∷ ps) (at + length a) b) (stores_over p ps at a r)
          ∙ ap (λ (ss : List Store). in_stores ps at a ++ ss) (stores_over p ps (at + length a) b r)
          ∙ stores_in_two ps at a b
          ∙ sym (stores_over p ps at (a ++ b) r)
      | inl w ↦ elim (cases_lt at p.len) [
        -- both begin behind the part
        | inr past ↦
            let e : at + length a - p.len ≡ at - p.len + length a = omega arith in
            ap (λ (ss : List Store). ss ++ in_stores (p ∷ ps) (at + length a) b) (stores_past p ps at a w past)
            ∙ ap (λ (ss : List Store). in_stores ps (at - p.len) a ++ ss) (stores_past p ps (at + length a) b w (omega arith))
            ∙ ap (λ (k : ℕ). in_stores ps (at - p.len) a ++ in_stores ps k b) e
            ∙ stores_in_two ps (at - p.len) a b
            ∙ sym (stores_past p ps at (a ++ b) w past)
        | inl lt ↦ elim (cases_lt (at + length a) p.len) [
          -- the first ends inside the part, and the second goes on there
          | inl short ↦
              let x : ℕ = p.addr + at in
              let left : ℕ = p.len - (at + length a) in
              let k : p.len - at ≡ length a + left = omega arith in
              let ta : take (p.len - at) a ≡ a = take_all (p.len - at) a (omega arith) in
              let da : drop (p.len - at) a ≡ [] = drop_all (p.len - at) a (omega arith) in
              let tab : take (p.len - at) (a ++ b) ≡ a ++ take left b = ap (λ (i : ℕ). take i (a ++ b)) k ∙ take_over a b left in
              let dab : drop (p.len - at) (a ++ b) ≡ drop left b = ap (λ (i : ℕ). drop i (a ++ b)) k ∙ drop_over a b left in
              let address : p.addr + (at + length a) ≡ x + length a = omega arith in
              let first : in_stores (p ∷ ps) at a ≡ stores_at x a =
              stores_into p ps at a w lt
              ∙ ap (λ (bs : List ℕ). stores_at x bs ++ in_stores ps 0 (drop (p.len - at) a)) ta
              ∙ ap (λ (bs : List ℕ). stores_at x a ++ in_stores ps 0 bs) da
              ∙ ap (λ (ss : List Store). stores_at x a ++ ss) (stores_none ps 0)
              ∙ append-nil (stores_at x a) in
              ap (λ (ss : List Store). ss ++ in_stores (p ∷ ps) (at + length a) b) first
              ∙ ap (λ (ss : List Store). stores_at x a ++ ss) (stores_into p ps (at + length a) b w short)
              ∙ ap (λ (i : ℕ). stores_at x a ++ (stores_at i (take left b) ++ in_stores ps 0 (drop left b))) address
              ∙ sym (append_assoc (stores_at x a) (stores_at (x + length a) (take left b)) (in_stores ps 0 (drop left b)))
              ∙ ap (λ (ss : List Store). ss ++ in_stores ps 0 (drop left b)) (sym (stores_behind x a (take left b)))
              ∙ sym (stores_into p ps at (a ++ b) w lt
              ∙ ap (λ (bs : List ℕ). stores_at x bs ++ in_stores ps 0 (drop (p.len - at) (a ++ b))) tab
              ∙ ap (λ (bs : List ℕ). stores_at x (a ++ take left b) ++ in_stores ps 0 bs) dab)
          -- the first fills the part
          | inr full ↦
              let here : List Store = stores_at (p.addr + at) (take (p.len - at) a) in
              let more : List ℕ = drop (p.len - at) a in
              let e : at + length a - p.len ≡ 0 + length more = omega (arith, length-drop (p.len - at) a) in
              let tab : take (p.len - at) (a ++ b) ≡ take (p.len - at) a = take-append-le (p.len - at) a b (omega arith) in
              let dab : drop (p.len - at) (a ++ b) ≡ more ++ b = drop-append-le (p.len - at) a b (omega arith) in
              ap (λ (ss : List Store). ss ++ in_stores (p ∷ ps) (at + length a) b) (stores_into p ps at a w lt)
              ∙ ap (λ (ss : List Store). (here ++ in_stores ps 0 more) ++ ss) (stores_past p ps (at + length a) b w full)
              ∙ ap (λ (k : ℕ). (here ++ in_stores ps 0 more) ++ in_stores ps k b) e
              ∙ append_assoc here (in_stores ps 0 more) (in_stores ps (0 + length more) b)
              ∙ ap (λ (ss : List Store). here ++ ss) (stores_in_two ps 0 more b)
              ∙ sym (stores_into p ps at (a ++ b) w lt
              ∙ ap (λ (bs : List ℕ). stores_at (p.addr + at) bs ++ in_stores ps 0 (drop (p.len - at) (a ++ b))) tab
              ∙ ap (λ (bs : List ℕ). here ++ in_stores ps 0 bs) dab)
        ]
      ]
    ]

-- Stores behind others, in a memory of any kind
module _ {S : Type 0} (storing : S → List Store → S) (both : (s : S) (a b : List Store) → storing (storing s a) b ≡ storing s (a ++ b)) where
  -- the first of some were made, and the rest is to be
  pub first_made : (s s₁ t : S) (a b c : List Store) → s₁ ≡ storing s a → c ≡ a ++ b → storing s c ≡ t → storing s₁ b ≡ t
  first_made s s₁ t a b c is all whole = ap (λ (u : S). storing u b) is ∙ both s a b ∙ ap (storing s) (sym all) ∙ whole

  -- some, and others behind them
  pub in_turn : (s s₁ s₂ : S) (a b c : List Store) → s₁ ≡ storing s a → s₂ ≡ storing s₁ b → a ++ b ≡ c → s₂ ≡ storing s c
  in_turn s s₁ s₂ a b c is then all = then ∙ ap (λ (u : S). storing u b) is ∙ both s a b ∙ ap (storing s) all

  -- one write
  pub one_made : (s s₁ : S) (w : Write) (ws : List Write) → s₁ ≡ storing s (stores_at w.addr w.bytes) → ws ≡ w ∷ [] → s₁ ≡ storing s (stores_of ws)
  one_made s s₁ w ws is are = is ∙ ap (storing s) (sym (append-nil (stores_at w.addr w.bytes))) ∙ ap (λ (vs : List Write). storing s (stores_of vs)) (sym are)

  -- two writes, one behind the other
  pub two_made : (s s₁ s₂ : S) (w v : Write) (ws : List Write) → s₁ ≡ storing s (stores_at w.addr w.bytes) → s₂ ≡ storing s₁ (stores_at v.addr v.bytes)
      → ws ≡ w ∷ v ∷ [] → s₂ ≡ storing s (stores_of ws)
  two_made s s₁ s₂ w v ws is then are =
      in_turn s s₁ s₂ (stores_at w.addr w.bytes) (stores_at v.addr v.bytes) (stores_of (w ∷ v ∷ [])) is then
      (ap (λ (ss : List Store). stores_at w.addr w.bytes ++ ss) (sym (append-nil (stores_at v.addr v.bytes))))
      ∙ ap (λ (vs : List Write). storing s (stores_of vs)) (sym are)
