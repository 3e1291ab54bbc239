-- Which address lies where, and what is kept of it.
use Rattle.std.proofs.Common.{◌≡◌, ℕ, ◌+◌, ◌-◌, ◌<◌, ◌≤◌, List, [], ◌∷◌, ◌++◌, length, take, get_or, cond, Bool, nat_le, true, false, refl, ap, ◌∙◌, arith, ◌⊎◌, inl, inr}
use Rattle.std.proofs.lemmas.Bool.{cases_lt, lt-ltb, le-ltb, le-leb, lt-leb}
use Rattle.std.proofs.lemmas.List.{get_or_append_left, take_more, length-append}
use Rattle.std.proofs.lemmas.List.Elements.{All-head, All-tail}
use Rattle.live_mem.specs.Access.{spans}
use Rattle.live_mem.specs.Kept.{source, covers, byte_of, valued, AreKept}
use Rattle.live_mem.specs.declared.span.Span.{Span}

-- an address lies in a run of bytes, or before or behind it
pub within : (a n p : ℕ) → a ≤ p → p < a + n → spans a n p ≡ true
within a n p le lt = rw (le-leb a p le, lt-ltb p (a + n) lt) refl

pub before : (a n p : ℕ) → p < a → spans a n p ≡ false
before a n p lt = rw (lt-leb a p lt) refl

pub behind : (a n p : ℕ) → a + n ≤ p → spans a n p ≡ false
behind a n p le = rw (le-leb a p (omega (arith, le)), le-ltb p (a + n) le) refl

pub data Lies (a n p : ℕ) : Type 0 where
  In : a ≤ p → p < a + n → spans a n p ≡ true → Lies a n p
  Out : spans a n p ≡ false → Lies a n p

pub lies : (a n p : ℕ) → Lies a n p
lies a n p =
    elim (cases_lt p a) [
      | inl lt ↦ Out (before a n p lt)
      | inr le ↦ elim (cases_lt p (a + n)) [ inl lt ↦ In le lt (within a n p le lt) | inr out ↦ Out (behind a n p out) ]
    ]

-- one more span
pub valued_push : (ss : List Span) (s : Span) (kept : List ℕ) (p d : ℕ) → valued (ss ++ s ∷ []) kept p d ≡ cond (covers s p) (byte_of s kept p) (valued ss kept p d)
valued_push [] s kept p d = refl
valued_push (x ∷ ss) s kept p d = valued_push ss s kept p (cond (covers x p) (byte_of x kept p) d)

-- more bytes behind those that are kept leave what a span has
picked : (b : Bool) (short kept more : List ℕ) (i : ℕ) → i < length (cond b short kept) → get_or (cond b short (kept ++ more)) i 0 ≡ get_or (cond b short kept) i 0
picked true short kept more i lt = refl
picked false short kept more i lt = get_or_append_left kept more 0 i lt

pub longer : (b : Bool) (short kept more : List ℕ) → length (cond b short kept) ≤ length (cond b short (kept ++ more))
longer true short kept more = omega arith
longer false short kept more = omega (arith, length-append kept more)

byte_more : (s : Span) (kept more : List ℕ) (p d : ℕ) → s.start + s.len ≤ length (source s kept) → cond (covers s p) (byte_of s (kept ++ more) p) d ≡ cond (covers s p) (byte_of s kept p) d
byte_more s kept more p d le =
    elim (lies s.addr s.len p) [
      | In a b e ↦ rw e (picked (nat_le s.len 16) s.short kept more (s.start + (p - s.addr)) (omega (arith, le, a, b)))
      | Out e ↦ rw e refl
    ]

-- more bytes behind those that are kept
pub valued_more : (ss : List Span) (kept more : List ℕ) (p d : ℕ) → AreKept ss kept → valued ss (kept ++ more) p d ≡ valued ss kept p d
valued_more [] kept more p d all = refl
valued_more (s ∷ ss) kept more p d all =
    ap (valued ss (kept ++ more) p) (byte_more s kept more p d (All-head (λ (s : Span). s.start + s.len ≤ length (source s kept)) s ss all))
    ∙ valued_more ss kept more p (cond (covers s p) (byte_of s kept p) d) (All-tail (λ (s : Span). s.start + s.len ≤ length (source s kept)) s ss all)

-- the next of several spans
pub valued_next : (ss : List Span) (kept : List ℕ) (p d k : ℕ) (e : Span) → k < length ss
    → valued (take (k + 1) ss) kept p d ≡ cond (covers (get_or ss k e) p) (byte_of (get_or ss k e) kept p) (valued (take k ss) kept p d)
valued_next ss kept p d k e lt = ap (λ (l : List Span). valued l kept p d) (take_more ss k e lt) ∙ valued_push (take k ss) (get_or ss k e) kept p d

-- where no span has an address any byte stays; where one has it, it doesn't matter which stood there
free_or_kept : (ss : List Span) (kept : List ℕ) (p : ℕ) → ((d : ℕ) → valued ss kept p d ≡ d) ⊎ ((d e : ℕ) → valued ss kept p d ≡ valued ss kept p e)
free_or_kept [] kept p = inl (λ d. refl)
free_or_kept (s ∷ ss) kept p =
    elim (lies s.addr s.len p) [
      | In l h e ↦ inr (λ x y. rw e refl)
      | Out e ↦ elim (free_or_kept ss kept p) [ inl f ↦ inl (λ d. rw e (f d)) | inr f ↦ inr (λ x y. rw e (f x y)) ]
    ]

pub valued_again : (ss : List Span) (kept : List ℕ) (p d : ℕ) → valued ss kept p (valued ss kept p d) ≡ valued ss kept p d
valued_again ss kept p d = elim (free_or_kept ss kept p) [ inl f ↦ f (valued ss kept p d) | inr f ↦ f (valued ss kept p d) d ]
