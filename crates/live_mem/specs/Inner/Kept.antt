-- Rests on `specs/Kept.antt`; no promise rests on it.
use Rattle.std.specs.Prelude.{ℕ, ◌≡◌, ◌+◌, ◌<◌, ◌≤◌, List, [], ◌∷◌, ◌++◌, length, get_or}
use Rattle.live_mem.specs.Kept.{source}
use Rattle.live_mem.specs.declared.span.Span.{Span}

-- these bytes, read from an address on, are kept besides
pub record Keeps (ss : List Span) (kept : List ℕ) (addr : ℕ) (out : List ℕ) (new_ss : List Span) (new_kept : List ℕ) : Type 0 where
  pub span : Span
  pub more : List ℕ
  pub spans_are : new_ss ≡ ss ++ span ∷ []
  pub kept_are : new_kept ≡ kept ++ more
  pub begins : span.addr ≡ addr
  pub long : span.len ≡ length out
  pub fits : span.start + span.len ≤ length (source span new_kept)
  pub bytes : (i : ℕ) → i < length out → get_or (source span new_kept) (span.start + i) 0 ≡ get_or out i 0
