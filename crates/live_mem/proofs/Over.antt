-- What is kept of a span, put over the bytes that were read again.
use Rattle.std.proofs.Common.{◌≡◌, ℕ, ◌+◌, ◌-◌, ◌<◌, ◌≤◌, List, ◌++◌, length, take, drop, get_or, cond, min, refl, ap, ◌∙◌, arith, inl, inr}
use Rattle.std.proofs.lemmas.Bool.{cases_lt}
use Rattle.std.proofs.lemmas.List.{get_or-take, get_or-drop, get_or_append_left, get_or-append_right, length-take-le}
use Rattle.guest_mem.specs.Memory.{bytes_at, with_bytes}
use Rattle.live_mem.specs.Kept.{source, covers, byte_of}
use Rattle.live_mem.specs.declared.span.Span.{Span}
use Rattle.live_mem.proofs.Spans.{within, before, behind}

module _ (m : List ℕ) (a : ℕ) (bs : List ℕ) (i : ℕ) (inside : a ≤ length m) where
  long : length (take a m) ≡ a
  long = length-take-le a m inside

  pub with_below : i < a → get_or (with_bytes m a bs) i 0 ≡ get_or m i 0
  with_below lt = get_or_append_left (take a m) (bs ++ drop (length bs) (drop a m)) 0 i (omega (arith, long, lt)) ∙ get_or-take a m i 0 lt

  with_from : a ≤ i → get_or (with_bytes m a bs) i 0 ≡ get_or (bs ++ drop (length bs) (drop a m)) (i - a) 0
  with_from le = get_or-append_right (take a m) (bs ++ drop (length bs) (drop a m)) a i 0 long le

  pub with_in : a ≤ i → i < a + length bs → get_or (with_bytes m a bs) i 0 ≡ get_or bs (i - a) 0
  with_in le lt = with_from le ∙ get_or_append_left bs (drop (length bs) (drop a m)) 0 (i - a) (omega (arith, le, lt))

  pub with_above : a + length bs ≤ i → get_or (with_bytes m a bs) i 0 ≡ get_or m i 0
  with_above le =
      let n : a + (length bs + (i - a - length bs)) ≡ i = omega (arith, le) in
      with_from (omega (arith, le)) ∙ get_or-append_right bs (drop (length bs) (drop a m)) (length bs) (i - a) 0 refl (omega (arith, le))
      ∙ get_or-drop (length bs) (drop a m) (i - a - length bs) 0 ∙ get_or-drop a m (length bs + (i - a - length bs)) 0 ∙ ap (λ (k : ℕ). get_or m k 0) n

pub over : (s : Span) (kept out new src : List ℕ) (addr skip at len i : ℕ) → skip ≡ addr - s.addr → at ≡ s.addr - addr → len ≡ min (s.len - skip) (length out - at)
    → s.addr < addr + length out → skip < s.len → src ≡ bytes_at (source s kept) (s.start + skip) len → length src ≡ len → new ≡ with_bytes out at src → i < length out
    → get_or new i 0 ≡ cond (covers s (addr + i)) (byte_of s kept (addr + i)) (get_or out i 0)
over s kept out new src addr skip at len i is_skip is_at is_len front some is_src long is_new lt =
    let room : at ≤ length out = omega (arith, is_at, front) in
    let e : get_or new i 0 ≡ get_or (with_bytes out at src) i 0 = ap (λ (l : List ℕ). get_or l i 0) is_new in
    elim (cases_lt (addr + i) s.addr) [
      | inl low ↦ rw (before s.addr s.len (addr + i) low) (e ∙ with_below out at src i room (omega (arith, is_at, low)))
      | inr from ↦ elim (cases_lt (addr + i) (s.addr + s.len)) [
        | inr high ↦ rw (behind s.addr s.len (addr + i) high) (e ∙ with_above out at src i room (omega (arith, is_at, is_skip, is_len, long, high, from, some)))
        | inl inn ↦
            let n : s.start + skip + (i - at) ≡ s.start + (addr + i - s.addr) = omega (arith, is_at, is_skip, from) in
            let short : i - at < len = omega (arith, is_at, is_skip, is_len, inn, from, lt) in
            let one : get_or src (i - at) 0 ≡ get_or (take len (drop (s.start + skip) (source s kept))) (i - at) 0 = ap (λ (l : List ℕ). get_or l (i - at) 0) is_src in
            rw (within s.addr s.len (addr + i) from inn)
            (e ∙ with_in out at src i room (omega (arith, is_at, from)) (omega (arith, long, short)) ∙ one
            ∙ get_or-take len (drop (s.start + skip) (source s kept)) (i - at) 0 short ∙ get_or-drop (s.start + skip) (source s kept) (i - at) 0 ∙ ap (λ (k : ℕ). get_or (source s kept) k 0) n)
      ]
    ]
