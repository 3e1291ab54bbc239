-- What is kept says what was loaded, and where nothing is kept.
use Rattle.std.proofs.Common.{◌≡◌, ℕ, ◌+◌, ◌-◌, ◌<◌, ◌≤◌, List, [], ◌∷◌, ◌++◌, length, take, get_or, cond, Bool, nat_le, true, false, refl, sym, ap, ◌∙◌, arith, append-nil}
use Rattle.std.proofs.lemmas.List.{get_or-append_right, length-append}
use Rattle.std.proofs.lemmas.Bool.{le-leb, lt-leb}
use Rattle.std.proofs.lemmas.List.Elements.{All-push}
use Rattle.live_mem.specs.Access.{Access, spans, loaded}
use Rattle.live_mem.specs.Kept.{source, covers, byte_of, valued, AreKept, IsFree}
use Rattle.live_mem.specs.Inner.Kept.{Keeps}
use Rattle.live_mem.specs.declared.span.Span.{Span}
use Rattle.live_mem.proofs.Spans.{In, Out, lies, valued_push, valued_more, valued_next, valued_again, longer}

-- the bytes of a span that was kept last
last_byte : (kept out : List ℕ) (n : ℕ) → get_or (kept ++ out) (length kept + n) 0 ≡ get_or out n 0
last_byte kept out n =
    let e : length kept + n - length kept ≡ n = omega arith in
    get_or-append_right kept out (length kept) (length kept + n) 0 refl (omega arith) ∙ ap (λ (k : ℕ). get_or out k 0) e

-- a short run is kept in its span
pub keeps_short : (ss : List Span) (kept : List ℕ) (addr : ℕ) (out short : List ℕ) → length out ≤ 16 → length short ≡ 16 → ((i : ℕ) → i < length out → get_or short i 0 ≡ get_or out i 0)
    → Keeps ss kept addr out (ss ++ record { addr = addr; start = 0; len = length out; short = short } ∷ []) kept
keeps_short ss kept addr out short le long are =
    let e : nat_le (length out) 16 ≡ true = le-leb (length out) 16 le in
    record {
      span = record { addr = addr; start = 0; len = length out; short = short };
      more = [];
      spans_are = refl;
      kept_are = sym (append-nil kept);
      begins = refl;
      long = refl;
      fits = rw e (omega (arith, le, long));
      bytes = λ i lt. let z : 0 + i ≡ i = omega arith in rw (e, z) (are i lt);
    }

-- a longer one behind those that were kept before
pub keeps_long : (ss : List Span) (kept : List ℕ) (addr : ℕ) (out short : List ℕ) → 16 < length out
    → Keeps ss kept addr out (ss ++ record { addr = addr; start = length kept; len = length out; short = short } ∷ []) (kept ++ out)
keeps_long ss kept addr out short lt =
    let e : nat_le (length out) 16 ≡ false = lt-leb (length out) 16 lt in
    record {
      span = record { addr = addr; start = length kept; len = length out; short = short };
      more = out;
      spans_are = refl;
      kept_are = refl;
      begins = refl;
      long = refl;
      fits = rw e (omega (arith, length-append kept out));
      bytes = λ i less. rw e (last_byte kept out i);
    }

module _ (ss new_ss : List Span) (kept new_kept : List ℕ) (addr : ℕ) (out : List ℕ) (all : AreKept ss kept) (keeps : Keeps ss kept addr out new_ss new_kept) where
  abbrev new : Span
  new = keeps.span

  has : (p : ℕ) → covers new p ≡ spans addr (length out) p
  has p = ap (λ (x : ℕ). spans x new.len p) keeps.begins ∙ ap (λ (x : ℕ). spans addr x p) keeps.long

  pushed : (b : Bool) (p d : ℕ) → spans addr (length out) p ≡ b → valued new_ss new_kept p d ≡ cond b (byte_of new new_kept p) (valued ss kept p d)
  pushed b p d e =
      ap (λ (l : List Span). valued l new_kept p d) keeps.spans_are ∙ valued_push ss new new_kept p d
      ∙ ap (λ (x : Bool). cond x (byte_of new new_kept p) (valued ss new_kept p d)) (has p ∙ e)
      ∙ ap (λ (l : List ℕ). cond b (byte_of new new_kept p) (valued ss l p d)) keeps.kept_are
      ∙ ap (λ (x : ℕ). cond b (byte_of new new_kept p) x) (valued_more ss kept keeps.more p d all)

  outside : (p d : ℕ) → spans addr (length out) p ≡ false → valued new_ss new_kept p d ≡ valued ss kept p d
  outside p d e = pushed false p d e

  inside : (p d : ℕ) → addr ≤ p → p < addr + length out → spans addr (length out) p ≡ true → valued new_ss new_kept p d ≡ get_or out (p - addr) 0
  inside p d a b e =
      pushed true p d e ∙ ap (λ (x : ℕ). get_or (source new new_kept) (new.start + (p - x)) 0) keeps.begins ∙ keeps.bytes (p - addr) (omega (arith, a, b))

  -- each span has its bytes
  pub all_stay : AreKept new_ss new_kept
  all_stay =
      let P : Span → Type 0 = λ s. s.start + s.len ≤ length (source s (kept ++ keeps.more)) in
      let last : P new = rw keeps.kept_are at keeps.fits in
      let pushed_all : AreKept (ss ++ new ∷ []) (kept ++ keeps.more) = All-push P ss new (λ k d lt. omega (arith, all k d lt, longer (nat_le (get_or ss k d).len 16) (get_or ss k d).short kept keeps.more)) last in
      rw (keeps.spans_are, keeps.kept_are) pushed_all

  -- a range that was free is, without the bytes that were kept last
  pub free_stays : (low high low' high' : ℕ) → IsFree ss kept low high → low ≤ low' → high' ≤ high
      → ((p : ℕ) → low' ≤ p → p < high' → spans addr (length out) p ≡ false) → IsFree new_ss new_kept low' high'
  free_stays low high low' high' free le ge apart = λ p d l h.
      outside p d (apart p l h) ∙ free p d (omega (arith, le, l)) (omega (arith, ge, h))

  pub kept_loaded : (below : ℕ → ℕ → ℕ) (log : List Access) (fresh : List ℕ) → length fresh ≡ length out → ((i : ℕ) → i < length out → get_or out i 0 ≡ valued ss kept (addr + i) (below (addr + i) (get_or fresh i 0)))
      → ((p d : ℕ) → valued ss kept p (below p d) ≡ loaded log p d) → (p d : ℕ) → valued new_ss new_kept p (below p d) ≡ loaded (Access.Loads addr fresh ∷ log) p d
  kept_loaded below log fresh long are faithful p d =
      elim (lies addr (length out) p) [
        | In a b e ↦
            let n : addr + (p - addr) ≡ p = omega (arith, a) in
            let o : get_or out (p - addr) 0 ≡ valued ss kept p (below p (get_or fresh (p - addr) 0)) =
            are (p - addr) (omega (arith, a, b)) ∙ ap (λ (k : ℕ). valued ss kept k (below k (get_or fresh (p - addr) 0))) n in
            rw (long, e) (inside p (below p d) a b e ∙ o ∙ faithful p (get_or fresh (p - addr) 0))
        | Out e ↦ rw (long, e) (outside p (below p d) e ∙ faithful p d)
      ]

-- bytes that are kept by their addresses, below the spans
pub scattered_loaded : (ss : List Span) (kept : List ℕ) (below now : ℕ → ℕ → ℕ) (addr : ℕ) (out : List ℕ) (log : List Access) (fresh : List ℕ) → length fresh ≡ length out
    → ((i : ℕ) → i < length out → get_or out i 0 ≡ valued ss kept (addr + i) (below (addr + i) (get_or fresh i 0)))
    → ((p d : ℕ) → now p d ≡ cond (spans addr (length out) p) (get_or out (p - addr) 0) (below p d))
    → ((p d : ℕ) → valued ss kept p (below p d) ≡ loaded log p d) → (p d : ℕ) → valued ss kept p (now p d) ≡ loaded (Access.Loads addr fresh ∷ log) p d
scattered_loaded ss kept below now addr out log fresh long are filled faithful p d =
    elim (lies addr (length out) p) [
      | In a b e ↦
          let n : addr + (p - addr) ≡ p = omega (arith, a) in
          let o : get_or out (p - addr) 0 ≡ valued ss kept p (below p (get_or fresh (p - addr) 0)) =
          are (p - addr) (omega (arith, a, b)) ∙ ap (λ (k : ℕ). valued ss kept k (below k (get_or fresh (p - addr) 0))) n in
          let f : now p d ≡ get_or out (p - addr) 0 = rw e at (filled p d) in
          let again = valued_again ss kept p (below p (get_or fresh (p - addr) 0)) in
          rw (long, e) (ap (valued ss kept p) (f ∙ o) ∙ again ∙ faithful p (get_or fresh (p - addr) 0))
      | Out e ↦
          let f : now p d ≡ below p d = rw e at (filled p d) in
          rw (long, e) (ap (valued ss kept p) f ∙ faithful p d)
    ]

-- a part of a free range is free
pub narrower : (ss : List Span) (kept : List ℕ) (low high low' high' : ℕ) → IsFree ss kept low high → low ≤ low' → high' ≤ high → IsFree ss kept low' high'
narrower ss kept low high low' high' free le ge = λ p d l h. free p d (omega (arith, le, l)) (omega (arith, ge, h))

-- one more span that has no address of a range
pub free_next : (ss : List Span) (kept : List ℕ) (k low high low' high' : ℕ) (e : Span) → k < length ss → IsFree (take k ss) kept low high → low ≤ low' → high' ≤ high
    → ((p : ℕ) → low' ≤ p → p < high' → covers (get_or ss k e) p ≡ false) → IsFree (take (k + 1) ss) kept low' high'
free_next ss kept k low high low' high' e lt free le ge out = λ p d l h.
    valued_next ss kept p d k e lt ∙ rw (out p l h) (free p d (omega (arith, le, l)) (omega (arith, ge, h)))
