-- A position in the writable parts of a chain, from one byte of it to the next.
use Rattle.std.proofs.Common.{◌≡◌, ℕ, zero, suc, ◌+◌, ◌-◌, ◌≤◌, List, [], ◌∷◌, true, false, cond, take, drop, refl, sym, ap, ◌∙◌, arith, inl, inr}
use Rattle.std.proofs.lemmas.Bool.{le-ltb}
use Rattle.std.proofs.lemmas.List.Sums.{sum_by-cons}
use Rattle.ring_core.specs.Parts.{writable_total}
use Rattle.ring_core.specs.Writes.{scatter_writes}
use Rattle.ring_core.specs.declared.descriptor.Part.{Part}
use Rattle.ring_core.proofs.Scattering.{true_or_false}

-- bytes from behind the first part on
writes_past : (p : Part) (ps : List Part) (at : ℕ) (bs : List ℕ) → p.writable ≡ true → p.len ≤ at
    → scatter_writes (p ∷ ps) at bs ≡ scatter_writes ps (at - p.len) bs
writes_past p ps at bs w le =
    let e : p.len - at ≡ 0 = omega arith in
    rw (w, le-ltb at p.len le, e) refl

-- bytes past a part that isn't writable
writes_over : (p : Part) (ps : List Part) (at : ℕ) (bs : List ℕ) → p.writable ≡ false → scatter_writes (p ∷ ps) at bs ≡ scatter_writes ps at bs
writes_over p ps at bs r = rw r refl

-- bytes from a position on are those from the parts of the position on
from_position : (ps : List Part) (i skip : ℕ) (bs : List ℕ)
    → scatter_writes (drop i ps) skip bs ≡ scatter_writes ps (writable_total (take i ps) + skip) bs
from_position ps zero skip bs = let e : 0 + skip ≡ skip = omega arith in rw e refl
from_position [] (suc i) skip bs = refl
from_position (p ∷ ps) (suc i) skip bs =
    let first : writable_total (take (suc i) (p ∷ ps)) ≡ cond p.writable p.len 0 + writable_total (take i ps) =
    sum_by-cons (λ (q : Part). cond q.writable q.len 0) p (take i ps) in
    elim (true_or_false p.writable) [
      | inr r ↦
          let total : writable_total (take (suc i) (p ∷ ps)) ≡ writable_total (take i ps) =
          let some = first ∙ ap (λ b. cond b p.len 0 + writable_total (take i ps)) r in omega (arith, some) in
          from_position ps i skip bs
          ∙ ap (λ (k : ℕ). scatter_writes ps (k + skip) bs) (sym total)
          ∙ sym (writes_over p ps (writable_total (take (suc i) (p ∷ ps)) + skip) bs r)
      | inl w ↦
          let total : writable_total (take (suc i) (p ∷ ps)) ≡ p.len + writable_total (take i ps) =
          first ∙ ap (λ b. cond b p.len 0 + writable_total (take i ps)) w in
          let e : p.len + writable_total (take i ps) + skip - p.len ≡ writable_total (take i ps) + skip = omega arith in
          from_position ps i skip bs
          ∙ ap (λ (k : ℕ). scatter_writes ps k bs) (sym e)
          ∙ sym (writes_past p ps (p.len + writable_total (take i ps) + skip) bs w (omega arith))
          ∙ ap (λ (k : ℕ). scatter_writes (p ∷ ps) (k + skip) bs) (sym total)
    ]

-- the same by how many bytes lie before the position
pub from_there : (ps qs : List Part) (i skip at : ℕ) (bs : List ℕ) → ps ≡ qs → writable_total (take i ps) + skip ≡ at
    → scatter_writes (drop i ps) skip bs ≡ scatter_writes qs at bs
from_there ps qs i skip at bs same start =
    from_position ps i skip bs ∙ ap (λ (k : ℕ). scatter_writes ps k bs) start ∙ ap (λ (rs : List Part). scatter_writes rs at bs) same
