-- What is claimed wasn't read, and is read once.
use Rattle.std.proofs.Common.{◌≡◌, ℕ, ◌+◌, ◌-◌, ◌<◌, ◌≤◌, List, [], ◌∷◌, ◌++◌, length, get_or, true, refl, sym, ap, ◌∙◌, arith, inl, inr}
use Rattle.std.proofs.lemmas.Bool.{true≢false, cases_lt}
use Rattle.std.proofs.lemmas.List.{get_or_append_left, get_or-append_right, length-append}
use Rattle.live_mem.specs.Access.{Access, Loads, Stores, spans, loaded}
use Rattle.live_mem.specs.Inner.Access.{ReadsThere}
use Rattle.live_mem.specs.Claims.{claims_at, AreApart, LieIn, AreUnread}
use Rattle.live_mem.specs.declared.claims.Claim.{Claim}
use Rattle.live_mem.proofs.Spans.{In, Out, lies, within}

-- of no runs none was read
pub none_read : (rs : List Claim) (n : ℕ) → n ≤ length rs → rs ≡ [] → n ≡ 0
none_read rs n le none = let now : n ≤ length {A = Claim} [] = rw none at le in omega (arith, now)

-- a store leaves what is unread
pub stored_unread : (log log' : List Access) (rs : List Claim) (n addr : ℕ) (bs : List ℕ) → log' ≡ Stores addr bs ∷ log → AreUnread log rs n → AreUnread log' rs n
stored_unread log log' rs n addr bs is unread k p d e le lt at = rw is (unread k p d e le lt at)

module _ (log log' : List Access) (rs : List Claim) (n addr : ℕ) (out : List ℕ) (unread : AreUnread log rs n) (some : n < length rs) (next : (e : Claim) → get_or rs n e ≡ record { addr = addr; len = length out }) (asked : log' ≡ Loads addr out ∷ log) where
  next_at : (e : Claim) (p : ℕ) → claims_at rs n e p ≡ spans addr (length out) p
  next_at e p = ap (λ (c : Claim). spans c.addr c.len p) (next e)

  -- the next run is what the bus gives of it
  pub reads_claimed : ReadsThere log log' addr out
  reads_claimed =
      let e : Claim = record { addr = addr; len = length out } in
      inl (record {
        fresh = out;
        long = refl;
        asked = asked;
        are = λ i lt. sym (unread n (addr + i) (get_or out i 0) e (omega arith) some (next_at e (addr + i) ∙ within addr (length out) (addr + i) (omega arith) (omega (arith, lt))));
      })

  -- those behind it stay unread
  pub still_unread : AreApart rs → (rs' : List Claim) (n' : ℕ) → rs' ≡ rs → n' ≡ n + 1 → AreUnread log' rs' n'
  still_unread apart rs' n' same more k p d e le lt at =
      let lt' : k < length rs = rw same at lt in
      let at' : claims_at rs k e p ≡ true = rw same at at in
      elim (lies addr (length out) p) [
        | In a b t ↦ absurd (true≢false (sym at' ∙ apart n k p e (omega (arith, le, more)) lt' (next_at e p ∙ t)))
        | Out f ↦ rw (asked, f) (unread k p d e (omega (arith, le, more)) lt' at')
      ]

module _ (rs new : List Claim) (c : Claim) (pushed : new ≡ rs ++ c ∷ []) where
  at_old : (k p : ℕ) (e : Claim) → k < length rs → claims_at new k e p ≡ claims_at rs k e p
  at_old k p e lt = rw pushed (ap (λ (x : Claim). spans x.addr x.len p) (get_or_append_left rs (c ∷ []) e k lt))

  at_last : (k p : ℕ) (e : Claim) → k ≡ length rs → claims_at new k e p ≡ spans c.addr c.len p
  at_last k p e is =
      let z : k - length rs ≡ 0 = omega (arith, is) in
      rw pushed (ap (λ (x : Claim). spans x.addr x.len p) (get_or-append_right rs (c ∷ []) (length rs) k e refl (omega (arith, is)) ∙ ap (λ (i : ℕ). get_or (c ∷ []) i e) z))

  long : length new ≡ length rs + 1
  long = rw pushed (omega (arith, length-append rs (c ∷ [])))

  -- a run that has no address of the others is apart from them
  pub apart_push : AreApart rs → ((k p : ℕ) (e : Claim) → k < length rs → claims_at rs k e p ≡ true → c.addr ≤ p → p < c.addr + c.len → ⊥) → AreApart new
  apart_push apart free j k p e less lt at =
      let old : claims_at rs j e p ≡ true = sym (at_old j p e (omega (arith, less, lt, long))) ∙ at in
      elim (cases_lt k (length rs)) [
        | inl in_it ↦ at_old k p e in_it ∙ apart j k p e less in_it old
        | inr last ↦
            at_last k p e (omega (arith, last, lt, long))
            ∙ elim (lies c.addr c.len p) [ In a b t ↦ absurd (free j p e (omega (arith, less, lt, long)) old a b) | Out f ↦ f ]
      ]

  -- all lie from the lesser of two bounds up to the greater
  pub between_push : (low high low' high' : ℕ) → LieIn rs low high → low' ≤ low → low' ≤ c.addr → high ≤ high' → c.addr + c.len ≤ high' → LieIn new low' high'
  between_push low high low' high' lie a b x y k p e lt at =
      elim (cases_lt k (length rs)) [
        | inl in_it ↦
            let old = lie k p e in_it (sym (at_old k p e in_it) ∙ at) in
            (omega (arith, old.0, a), omega (arith, old.1, x))
        | inr last ↦
            let new_at : spans c.addr c.len p ≡ true = sym (at_last k p e (omega (arith, last, lt, long))) ∙ at in
            elim (lies c.addr c.len p) [ In l h t ↦ (omega (arith, l, b), omega (arith, h, y)) | Out f ↦ absurd (true≢false (sym new_at ∙ f)) ]
      ]

  -- one that wasn't read is unread, as the others are
  pub unread_push : (log : List Access) (n : ℕ) → AreUnread log rs n → ((p d : ℕ) → c.addr ≤ p → p < c.addr + c.len → loaded log p d ≡ d) → AreUnread log new n
  unread_push log n unread free k p d e le lt at =
      elim (cases_lt k (length rs)) [
        | inl in_it ↦ unread k p d e le in_it (sym (at_old k p e in_it) ∙ at)
        | inr last ↦
            let new_at : spans c.addr c.len p ≡ true = sym (at_last k p e (omega (arith, last, lt, long))) ∙ at in
            elim (lies c.addr c.len p) [ In l h t ↦ free p d l h | Out f ↦ absurd (true≢false (sym new_at ∙ f)) ]
      ]
