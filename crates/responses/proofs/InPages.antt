-- Bytes that are written behind others over the writable parts of a chain.
use Rattle.std.proofs.Common.{◌≡◌, ◌∙◌, ◌+◌, ◌++◌, arith, ap, subst, sym, length, List, ℕ}
use Rattle.guest_mem.specs.Stores.{Store}
use Rattle.ring_core.specs.Parts.{PartsFit}
use Rattle.ring_core.specs.Writes.{Wrote, all_written, scatter_writes, stores_of}
use Rattle.ring_core.specs.declared.descriptor.Part.{Part}
use Rattle.ring_core.proofs.Scattering.{scatter_in_two_lem}
use Rattle.ring_core.proofs.InStores.{in_stores, in_turn, stores_in_two}

-- the parts of a chain lie in a memory of its size
pub fits_so : (n size : ℕ) (qs parts : List Part) → n ≡ size → qs ≡ parts → PartsFit size parts → PartsFit n qs
fits_so n size qs parts e same fit =
    subst (λ (k : ℕ). PartsFit k qs) (sym e) (subst (λ (ps : List Part). PartsFit size ps) (sym same) fit)

-- the first bytes, whatever the memory may be
pub wrote_first : (before after : List ℕ → Type 0) (parts qs : List Part) (at : ℕ) (bs : List ℕ) → qs ≡ parts → at ≡ 0
    → Wrote before after (scatter_writes qs at bs) → Wrote before after (scatter_writes parts 0 bs)
wrote_first before after parts qs at bs same start w =
    subst (λ (n : ℕ). Wrote before after (scatter_writes parts n bs)) start
    (subst (λ (ps : List Part). Wrote before after (scatter_writes ps at bs)) same w)

-- and more
pub wrote_more : (before between after : List ℕ → Type 0) (size : ℕ) (parts qs : List Part) (at : ℕ) (a b whole : List ℕ)
    → ((m : List ℕ) → before m → length m ≡ size) → PartsFit size parts → qs ≡ parts → at ≡ length a → a ++ b ≡ whole
    → Wrote before between (scatter_writes parts 0 a) → Wrote between after (scatter_writes qs at b)
    → Wrote before after (scatter_writes parts 0 whole)
wrote_more before between after size parts qs at a b whole sized fit same there is first then = λ m s.
    let w₂ = then m s in
    let w₁ = first w₂.0 w₂.1 in
    let from : at ≡ 0 + length a = omega (arith, there) in
    let fits : PartsFit (length w₁.0) parts = subst (λ (n : ℕ). PartsFit n parts) (sym (sized w₁.0 w₁.1)) fit in (
      w₁.0,
      w₁.1,
      w₂.2
          ∙ ap (λ (k : List ℕ). all_written k (scatter_writes qs at b)) w₁.2
          ∙ ap (λ (ps : List Part). all_written (all_written w₁.0 (scatter_writes parts 0 a)) (scatter_writes ps at b)) same
          ∙ ap (λ (n : ℕ). all_written (all_written w₁.0 (scatter_writes parts 0 a)) (scatter_writes parts n b)) from
          ∙ scatter_in_two_lem w₁.0 parts 0 a b fits
          ∙ ap (λ (bs : List ℕ). all_written w₁.0 (scatter_writes parts 0 bs)) is,
    )

-- the same in a memory of any kind
module _ {S : Type 0} (storing : S → List Store → S) (both : (s : S) (a b : List Store) → storing (storing s a) b ≡ storing s (a ++ b)) where
  pub stores_first : (s s₁ : S) (parts qs : List Part) (at : ℕ) (bs : List ℕ) → qs ≡ parts → at ≡ 0
      → s₁ ≡ storing s (in_stores qs at bs) → s₁ ≡ storing s (in_stores parts 0 bs)
  stores_first s s₁ parts qs at bs same start is =
      is ∙ ap (λ (ps : List Part). storing s (in_stores ps at bs)) same ∙ ap (λ (n : ℕ). storing s (in_stores parts n bs)) start

  pub stores_more : (s s₁ s₂ : S) (parts qs : List Part) (at : ℕ) (a b whole : List ℕ) → qs ≡ parts → at ≡ length a → a ++ b ≡ whole
      → s₁ ≡ storing s (in_stores parts 0 a) → s₂ ≡ storing s₁ (in_stores qs at b) → s₂ ≡ storing s (in_stores parts 0 whole)
  stores_more s s₁ s₂ parts qs at a b whole same there is first then =
      let from : at ≡ 0 + length a = omega (arith, there) in
      in_turn storing both s s₁ s₂ (in_stores parts 0 a) (in_stores parts at b) (in_stores parts 0 (a ++ b)) first
      (then ∙ ap (λ (ps : List Part). storing s₁ (in_stores ps at b)) same)
      (ap (λ (n : ℕ). in_stores parts 0 a ++ in_stores parts n b) from ∙ stores_in_two parts 0 a b)
      ∙ ap (λ (bs : List ℕ). storing s (in_stores parts 0 bs)) is
