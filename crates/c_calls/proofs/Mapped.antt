-- Bytes that are mapped, as far as one address and from there on.
use Rattle.std.proofs.Common.{◌≤◌, ◌<◌, ℕ, List}
use Rattle.std.proofs.lemmas.Bool.{cases_lt}
use Rattle.c_calls.specs.Mapped.{HasByte}
use Rattle.c_calls.specs.declared.region.Region.{Region}
use mathlib.Core.Logic.{inl, inr}

pub joined : (regions : List Region) (addr at next p : ℕ) → ((q : ℕ) → addr ≤ q → q < at → HasByte regions q)
    → ((q : ℕ) → at ≤ q → q < next → HasByte regions q) → addr ≤ p → p < next → HasByte regions p
joined regions addr at next p before behind from below =
    elim (cases_lt p at) as (λ _. HasByte regions p) [ inl here ↦ before p from here | inr here ↦ behind p here below ]
