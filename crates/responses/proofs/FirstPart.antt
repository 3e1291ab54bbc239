-- Bytes over the writable parts of a chain, where they all lie in the first of these.
use Rattle.std.proofs.Common.{◌≡◌, ℕ, ◌+◌, ◌-◌, ◌<◌, ◌≤◌, true, false, cond, List, [], ◌∷◌, ◌++◌, length, take, drop, Some, None, refl, sym, ◌∙◌, ap, subst, arith, append-nil}
use Rattle.std.proofs.lemmas.Bool.Decides.{nat_tests}
use Rattle.std.proofs.lemmas.Grind.{common_steps}
use Rattle.std.proofs.lemmas.List.{take-append-drop, drop_all, take_all}
use Rattle.std.proofs.lemmas.List.Elements.{All-head, All-tail}
use Rattle.std.specs.List.{AllPass}
use Rattle.guest_mem.specs.Memory.{with_bytes}
use Rattle.guest_mem.specs.Stores.{Store, stores_at}
use Rattle.ring_core.specs.Parts.{PartsFit, inside}
use Rattle.ring_core.specs.Writes.{all_written, scatter_writes, stores_of}
use Rattle.ring_core.specs.declared.descriptor.Part.{Part}
use Rattle.ring_core.proofs.Scattering.{scattered, scatter_nothing, scattered_into, scattered_over, scatter_in_two_lem}
use Rattle.ring_core.proofs.InStores.{in_stores, stores_none, stores_into, stores_over}
use Rattle.responses.specs.Inner.FirstPart.{first_open}

some_same : (p q : Part) → Some p ≡ Some q → p ≡ q
some_same p q e = cc

nothing : {p : Part} → None ≡ Some p → ⊥
nothing e = cc

-- the part is filled from a byte of it on
into : (m : List ℕ) (p : Part) (ps : List Part) (at : ℕ) (bs : List ℕ) → p.writable ≡ true → at + length bs ≤ p.len
    → scattered m (p ∷ ps) at bs ≡ with_bytes m (p.addr + at) bs
into m p ps at [] w le = scatter_nothing m (p ∷ ps) at ∙ sym (take-append-drop (p.addr + at) m)
into m p ps at (b ∷ bs) w le =
    let t : take (p.len - at) (b ∷ bs) ≡ b ∷ bs = take_all (p.len - at) (b ∷ bs) (omega arith) in
    let d : drop (p.len - at) (b ∷ bs) ≡ [] = drop_all (p.len - at) (b ∷ bs) (omega arith) in
    scattered_into m p ps at (b ∷ bs) w (omega arith)
    ∙ ap (λ (x : List ℕ). scattered (with_bytes m (p.addr + at) x) ps 0 (drop (p.len - at) (b ∷ bs))) t
    ∙ ap (λ (x : List ℕ). scattered (with_bytes m (p.addr + at) (b ∷ bs)) ps 0 x) d
    ∙ scatter_nothing (with_bytes m (p.addr + at) (b ∷ bs)) ps 0

-- bytes that lie in the first writable part
written_there : (m : List ℕ) (parts : List Part) (p : Part) (at : ℕ) (bs : List ℕ) → first_open parts ≡ Some p
    → at + length bs ≤ p.len → scattered m parts at bs ≡ with_bytes m (p.addr + at) bs
written_there m [] p at bs is le = absurd (nothing is)
written_there m (q ∷ ps) p at bs is le =
    (elim q.writable as (λ b. (q.writable ≡ b) → cond b (Some q) (first_open ps) ≡ Some p
    → scattered m (q ∷ ps) at bs ≡ with_bytes m (p.addr + at) bs) [
      | true ↦ λ w e.
          let same : q ≡ p = some_same q p e in
          into m q ps at bs w (subst (λ (r : Part). at + length bs ≤ r.len) (sym same) le)
          ∙ ap (λ (r : Part). with_bytes m (r.addr + at) bs) same
      | false ↦ λ r e. scattered_over m q ps at bs r ∙ written_there m ps p at bs e le
    ]) refl is

-- both lists of bytes
pub written_whole : (m : List ℕ) (parts : List Part) (p : Part) (a b : List ℕ) → PartsFit (length m) parts
    → first_open parts ≡ Some p → length a + length b ≤ p.len
    → with_bytes (with_bytes m p.addr a) (p.addr + length a) b ≡ all_written m (scatter_writes parts 0 (a ++ b))
written_whole m parts p a b fit is le =
    let first : scattered m parts 0 a ≡ with_bytes m p.addr a =
    written_there m parts p 0 a is (omega (arith, le)) ∙ ap (λ (x : ℕ). with_bytes m x a) (let e : p.addr + 0 ≡ p.addr = omega arith in e) in
    sym (written_there (with_bytes m p.addr a) parts p (length a) b is le)
    ∙ ap (λ (n : List ℕ). scattered n parts (length a) b) (sym first)
    ∙ ap (λ (x : ℕ). scattered (scattered m parts 0 a) parts x b) (let e : length a ≡ 0 + length a = omega arith in e)
    ∙ scatter_in_two_lem m parts 0 a b fit

lies_in : (size : ℕ) (p : Part) → inside size p ≡ true → 0 < p.len → p.addr + p.len ≤ size
lies_in size p is some = grind (arith, common_steps, nat_tests)

all_in : (size : ℕ) (parts : List Part) (p : Part) → AllPass (inside size) parts → first_open parts ≡ Some p → inside size p ≡ true
all_in size [] p all is = absurd (nothing is)
all_in size (q ∷ ps) p all is =
    (elim q.writable as (λ b. cond b (Some q) (first_open ps) ≡ Some p → inside size p ≡ true) [
      | true ↦ λ e. subst (λ (r : Part). inside size r ≡ true) (some_same q p e) (All-head (λ (r : Part). inside size r ≡ true) q ps all)
      | false ↦ λ e. all_in size ps p (All-tail (λ (r : Part). inside size r ≡ true) q ps all) e
    ]) is

-- the first writable part lies in memory
pub first_lies_in : (size : ℕ) (parts : List Part) (p : Part) → PartsFit size parts → first_open parts ≡ Some p → 0 < p.len
    → p.addr + p.len ≤ size
first_lies_in size parts p fit is some = lies_in size p (all_in size parts p fit.inside is) some

-- As stores:
-- the part is filled from a byte of it on
stores_there_into : (p : Part) (ps : List Part) (at : ℕ) (bs : List ℕ) → p.writable ≡ true → at + length bs ≤ p.len
    → in_stores (p ∷ ps) at bs ≡ stores_at (p.addr + at) bs
stores_there_into p ps at [] w le = stores_none (p ∷ ps) at
stores_there_into p ps at (b ∷ bs) w le =
    let t : take (p.len - at) (b ∷ bs) ≡ b ∷ bs = take_all (p.len - at) (b ∷ bs) (omega arith) in
    let d : drop (p.len - at) (b ∷ bs) ≡ [] = drop_all (p.len - at) (b ∷ bs) (omega arith) in
    stores_into p ps at (b ∷ bs) w (omega arith)
    ∙ ap (λ (x : List ℕ). stores_at (p.addr + at) x ++ in_stores ps 0 (drop (p.len - at) (b ∷ bs))) t
    ∙ ap (λ (x : List ℕ). stores_at (p.addr + at) (b ∷ bs) ++ in_stores ps 0 x) d
    ∙ ap (λ (ss : List Store). stores_at (p.addr + at) (b ∷ bs) ++ ss) (stores_none ps 0)
    ∙ append-nil (stores_at (p.addr + at) (b ∷ bs))

stores_there : (parts : List Part) (p : Part) (at : ℕ) (bs : List ℕ) → first_open parts ≡ Some p
    → at + length bs ≤ p.len → in_stores parts at bs ≡ stores_at (p.addr + at) bs
stores_there [] p at bs is le = absurd (nothing is)
stores_there (q ∷ ps) p at bs is le =
    (elim q.writable as (λ b. (q.writable ≡ b) → cond b (Some q) (first_open ps) ≡ Some p
    → in_stores (q ∷ ps) at bs ≡ stores_at (p.addr + at) bs) [
      | true ↦ λ w e.
          let same : q ≡ p = some_same q p e in
          stores_there_into q ps at bs w (subst (λ (r : Part). at + length bs ≤ r.len) (sym same) le)
          ∙ ap (λ (r : Part). stores_at (r.addr + at) bs) same
      | false ↦ λ r e. stores_over q ps at bs r ∙ stores_there ps p at bs e le
    ]) refl is

-- bytes that lie in the first writable part
pub stores_whole : (parts : List Part) (p : Part) (bs : List ℕ) → first_open parts ≡ Some p → length bs ≤ p.len
    → stores_at p.addr bs ≡ stores_of (scatter_writes parts 0 bs)
stores_whole parts p bs is le =
    ap (λ (x : ℕ). stores_at x bs) (let e : p.addr ≡ p.addr + 0 = omega arith in e) ∙ sym (stores_there parts p 0 bs is (omega (arith, le)))
