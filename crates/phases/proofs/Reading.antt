-- How many bytes a fetch reads.
use Rattle.std.proofs.Common.{◌≡◌, ℕ, List, [], ◌∷◌, length, drop, min, Bool, true, false, cond, refl, ap, ◌∙◌, subst, sym, arith, length-append, length-drop}
use Rattle.std.proofs.lemmas.Bool.Decides.{nat_tests}
use Rattle.std.proofs.lemmas.List.{length-take}
use Rattle.std.proofs.lemmas.List.Elements.{All-head, All-tail}
use Rattle.std.specs.List.{AllPass}
use Rattle.std.proofs.lemmas.List.Sums.{sum_by-append}
use Rattle.guest_mem.specs.Memory.{bytes_at}
use Rattle.ring_core.specs.State.{RingState, PlainChain}
use Rattle.ring_core.specs.Parts.{PartsFit, inside, readable_total, readable_of, readable_bytes, first_bytes}
use Rattle.ring_core.specs.Fetch.{Takes}
use Rattle.ring_core.specs.declared.descriptor.Part.{Part}

-- a part gives as many readable bytes as it counts
one_part : (m : List ℕ) (p : Part) (writable : Bool) → inside (length m) p ≡ true
    → length (cond writable [] (bytes_at m p.addr p.len)) ≡ cond writable 0 p.len
one_part m p true within = refl
one_part m p false within = grind (arith, nat_tests, length-take p.len (drop p.addr m), length-drop p.addr m)

-- the parts have as many readable bytes as they count
whole : (m : List ℕ) (parts : List Part) → AllPass (inside (length m)) parts
    → length (readable_bytes m parts) ≡ readable_total parts
whole m [] all = refl
whole m (p ∷ ps) all =
    omega (
      arith,
      length-append (readable_of m p) (readable_bytes m ps),
      one_part m p p.writable (All-head (λ (q : Part). inside (length m) q ≡ true) p ps all),
      whole m ps (All-tail (λ (q : Part). inside (length m) q ≡ true) p ps all),
      sum_by-append (λ (x : Part). cond x.writable 0 x.len) (p ∷ []) ps,
    )

-- a chain that was taken has all its readable bytes read, or as many as are read at most
pub read_of_taken : (old new : RingState) (m : List ℕ) (c : PlainChain) (bytes : List ℕ) → length m ≡ old.memory
    → PartsFit c.memory c.parts → Takes old m c bytes new → length bytes ≡ min first_bytes (readable_total c.parts)
read_of_taken old new m c bytes fits fit taken =
    let inside_m : PartsFit (length m) c.parts =
    subst (λ (n : ℕ). PartsFit n c.parts) (taken.memory ∙ sym fits) fit in
    ap length taken.bytes_are
    ∙ length-take first_bytes (readable_bytes m c.parts)
    ∙ ap (λ (n : ℕ). min first_bytes n) (whole m c.parts inside_m.inside)
