-- Bytes over the writable parts of a chain: none, as many as before, and in two goes.
use Rattle.std.proofs.Common.{◌≡◌, ℕ, suc, ◌+◌, ◌-◌, ◌<◌, ◌≤◌, List, [], ◌∷◌, ◌++◌, Bool, true, false, length, take, drop, refl, sym, ap, ◌∙◌, arith, append_assoc, length-append, length-drop, ◌⊎◌, inl, inr, get_or, min, cond}
use Rattle.std.proofs.Math.Nat.{min_comm}
use Rattle.std.proofs.lemmas.Bool.{cases_lt, lt-ltb, le-ltb}
use Rattle.std.proofs.lemmas.Bool.Decides.{nat_tests}
use Rattle.std.proofs.lemmas.Grind.{common_steps}
use Rattle.std.proofs.lemmas.List.{take_at, drop_at, take-append-drop, take-append-le, drop-append-le, drop-drop, drop_all, take_all, length-take, length-take-le, at_drop_more, drop_min}
use Rattle.std.proofs.lemmas.List.Sums.{sum_by-drop_more}
use Rattle.std.proofs.lemmas.List.Elements.{All-head, All-tail}
use Rattle.std.specs.List.{AllPass}
use Rattle.guest_mem.specs.Memory.{with_bytes}
use Rattle.ring_core.specs.Parts.{PartsFit, inside, writable_total}
use Rattle.ring_core.specs.Writes.{Write, all_written, scatter_writes}
use Rattle.ring_core.specs.declared.descriptor.Part.{Part}

pub true_or_false : (b : Bool) → (b ≡ true) ⊎ (b ≡ false)
true_or_false true = inl refl
true_or_false false = inr refl

-- memory once bytes were written over some parts
abbrev pub scattered : List ℕ → List Part → ℕ → List ℕ → List ℕ
scattered m parts at bs = all_written m (scatter_writes parts at bs)

pub written_in_order : (m : List ℕ) (first then : List Write) → all_written m (first ++ then) ≡ all_written (all_written m first) then
written_in_order m [] then = refl
written_in_order m (w ∷ first) then = written_in_order (with_bytes m w.addr w.bytes) first then

-- no bytes are no write
pub no_writes : (parts : List Part) (at : ℕ) → scatter_writes parts at [] ≡ []
no_writes [] at = refl
no_writes (p ∷ ps) at =
    let d : drop {A = ℕ} (p.len - at) [] ≡ [] = drop_all (p.len - at) [] (omega arith) in
    elim (true_or_false p.writable) [
      | inr r ↦ rw r (no_writes ps at)
      | inl w ↦ rw (w, d) (elim (cases_lt at p.len) [ inl lt ↦ rw (lt-ltb at p.len lt) (no_writes ps (at - p.len)) | inr le ↦ rw (le-ltb at p.len le) (no_writes ps (at - p.len)) ])
    ]

pub scatter_nothing : (m : List ℕ) (parts : List Part) (at : ℕ) → all_written m (scatter_writes parts at []) ≡ m
scatter_nothing m parts at = ap (all_written m) (no_writes parts at)

-- A write:
with_none : (m : List ℕ) (x : ℕ) → with_bytes m x [] ≡ m
with_none m x = take-append-drop x m

length-with : (m : List ℕ) (x : ℕ) (bs : List ℕ) → x + length bs ≤ length m → length (with_bytes m x bs) ≡ length m
length-with m x bs le = omega (arith, length-append (take x m) (bs ++ drop (length bs) (drop x m)), length-append bs (drop (length bs) (drop x m)), length-take-le x m (omega arith), length-drop (length bs) (drop x m), length-drop x m)

-- a write, and one at its end
with_more : (m : List ℕ) (x : ℕ) (a b : List ℕ) → x ≤ length m → with_bytes (with_bytes m x a) (x + length a) b ≡ with_bytes m x (a ++ b)
with_more m x a b le =
    let front : List ℕ = take x m ++ a in
    let rest : List ℕ = drop (length a) (drop x m) in
    let is : with_bytes m x a ≡ front ++ rest = sym (append_assoc (take x m) a rest) in
    let long : length front ≡ x + length a = omega (arith, length-append (take x m) a, length-take-le x m le) in
    let t : take (x + length a) (with_bytes m x a) ≡ front = ap (take (x + length a)) is ∙ take_at front rest (x + length a) long in
    let d : drop (x + length a) (with_bytes m x a) ≡ rest = ap (drop (x + length a)) is ∙ drop_at front rest (x + length a) long in
    let e : drop (length b) rest ≡ drop (length (a ++ b)) (drop x m) = drop-drop (length b) (length a) (drop x m) ∙ ap (λ (k : ℕ). drop k (drop x m)) (sym (length-append a b)) in
    ap (λ (f : List ℕ). f ++ (b ++ drop (length b) (drop (x + length a) (with_bytes m x a)))) t
    ∙ ap (λ (r : List ℕ). front ++ (b ++ drop (length b) r)) d
    ∙ ap (λ (r : List ℕ). front ++ (b ++ r)) e
    ∙ append_assoc (take x m) a (b ++ drop (length (a ++ b)) (drop x m))
    ∙ ap (λ (r : List ℕ). take x m ++ r) (sym (append_assoc a b (drop (length (a ++ b)) (drop x m))))

-- The first of some parts:
-- it is filled from a byte of it on
pub scattered_into : (m : List ℕ) (p : Part) (ps : List Part) (at : ℕ) (bs : List ℕ) → p.writable ≡ true → at < p.len
    → scattered m (p ∷ ps) at bs ≡ scattered (with_bytes m (p.addr + at) (take (p.len - at) bs)) ps 0 (drop (p.len - at) bs)
scattered_into m p ps at [] w lt =
    let t : take {A = ℕ} (p.len - at) [] ≡ [] = take_all (p.len - at) [] (omega arith) in
    let d : drop {A = ℕ} (p.len - at) [] ≡ [] = drop_all (p.len - at) [] (omega arith) in
    scatter_nothing m (p ∷ ps) at
    ∙ sym (
    ap (λ (bs : List ℕ). scattered (with_bytes m (p.addr + at) bs) ps 0 (drop (p.len - at) [])) t
    ∙ ap (λ (bs : List ℕ). scattered (with_bytes m (p.addr + at) []) ps 0 bs) d
    ∙ scatter_nothing (with_bytes m (p.addr + at) []) ps 0
    ∙ with_none m (p.addr + at))
scattered_into m p ps at (b ∷ bs) w lt =
    let e : at - p.len ≡ 0 = omega arith in
    rw (w, lt-ltb at p.len lt, lt-ltb 0 (length (b ∷ bs)) (omega arith), e) refl

-- it lies before the bytes
pub scattered_past : (m : List ℕ) (p : Part) (ps : List Part) (at : ℕ) (bs : List ℕ) → p.writable ≡ true → p.len ≤ at → scattered m (p ∷ ps) at bs ≡ scattered m ps (at - p.len) bs
scattered_past m p ps at bs w le =
    let e : p.len - at ≡ 0 = omega arith in
    rw (w, le-ltb at p.len le, e) refl

-- it isn't writable
pub scattered_over : (m : List ℕ) (p : Part) (ps : List Part) (at : ℕ) (bs : List ℕ) → p.writable ≡ false → scattered m (p ∷ ps) at bs ≡ scattered m ps at bs
scattered_over m p ps at bs r = rw r refl

-- a part lies in memory, or no byte of it is there to be written
room : (memory : ℕ) (p : Part) (at : ℕ) → inside memory p ≡ true → at < p.len → p.addr + p.len ≤ memory
room memory p at is lt = grind (arith, common_steps, nat_tests)

-- as many bytes of a part as there are, or as are left of it
here_fits : (p : Part) (at size : ℕ) (bs : List ℕ) → at < p.len → p.addr + p.len ≤ size → p.addr + at + length (take (p.len - at) bs) ≤ size
here_fits p at size bs lt le = omega (arith, length-take (p.len - at) bs)

same_size : (m : List ℕ) (p : Part) (at : ℕ) (bs : List ℕ) → inside (length m) p ≡ true → at < p.len → length (with_bytes m (p.addr + at) (take (p.len - at) bs)) ≡ length m
same_size m p at bs is lt = length-with m (p.addr + at) (take (p.len - at) bs) (here_fits p at (length m) bs lt (room (length m) p at is lt))

-- more than the first of two lists
pub take_over : (a b : List ℕ) (n : ℕ) → take (length a + n) (a ++ b) ≡ a ++ take n b
take_over [] b n = let e : 0 + n ≡ n = omega arith in rw e refl
take_over (x ∷ a) b n = let e : suc (length a) + n ≡ suc (length a + n) = omega arith in rw e (ap (λ (l : List ℕ). x ∷ l) (take_over a b n))

pub drop_over : (a b : List ℕ) (n : ℕ) → drop (length a + n) (a ++ b) ≡ drop n b
drop_over [] b n = let e : 0 + n ≡ n = omega arith in rw e refl
drop_over (x ∷ a) b n = let e : suc (length a) + n ≡ suc (length a + n) = omega arith in rw e (drop_over a b n)

-- Bytes over all parts:
-- from one part to the next
module _ (m : List ℕ) (ps : List Part) (i at : ℕ) (bs : List ℕ) (d : Part) (lt : i < length ps) where
  abbrev here : Part
  here = get_or ps i d

  first_of_rest : scattered m (drop i ps) at bs ≡ scattered m (here ∷ drop (i + 1) ps) at bs
  first_of_rest = at_drop_more (λ (qs : List Part). scattered m qs at bs) ps i d lt

  pub step_over : here.writable ≡ false → scattered m (drop (i + 1) ps) at bs ≡ scattered m (drop i ps) at bs
  step_over r = sym (first_of_rest ∙ scattered_over m here (drop (i + 1) ps) at bs r)

  pub step_past : here.writable ≡ true → here.len ≤ at → scattered m (drop (i + 1) ps) (at - here.len) bs ≡ scattered m (drop i ps) at bs
  step_past w le = sym (first_of_rest ∙ scattered_past m here (drop (i + 1) ps) at bs w le)

  pub step_into : (n : List ℕ) (k : ℕ) → here.writable ≡ true → at < here.len
      → n ≡ with_bytes m (here.addr + at) (take (here.len - at) bs) → k ≡ min (length bs) (here.len - at)
      → scattered n (drop (i + 1) ps) 0 (take (length bs - k) (drop k bs)) ≡ scattered m (drop i ps) at bs
  step_into n k w under is many =
      let all : take (length bs - k) (drop k bs) ≡ drop k bs = take_all (length bs - k) (drop k bs) (omega (arith, length-drop k bs)) in
      let e : drop k bs ≡ drop (here.len - at) bs = ap (λ (l : ℕ). drop l bs) (many ∙ min_comm (length bs) (here.len - at)) ∙ drop_min (here.len - at) bs in
      ap (λ (r : List ℕ). scattered n (drop (i + 1) ps) 0 r) (all ∙ e)
      ∙ ap (λ (x : List ℕ). scattered x (drop (i + 1) ps) 0 (drop (here.len - at) bs)) is
      ∙ sym (first_of_rest ∙ scattered_into m here (drop (i + 1) ps) at bs w under)

  pub writable_rest : writable_total (drop i ps) ≡ cond here.writable here.len 0 + writable_total (drop (i + 1) ps)
  writable_rest = sum_by-drop_more (λ (p : Part). cond p.writable p.len 0) ps i d lt

size_kept : (size : ℕ) (m : List ℕ) (parts : List Part) (at : ℕ) (bs : List ℕ) → length m ≡ size → AllPass (inside size) parts → length (scattered m parts at bs) ≡ size
size_kept size m [] at bs is all = is
size_kept size m (p ∷ ps) at bs is all =
    let here : inside size p ≡ true = All-head (λ (q : Part). inside size q ≡ true) p ps all in
    let rest : AllPass (inside size) ps = All-tail (λ (q : Part). inside size q ≡ true) p ps all in
    elim (true_or_false p.writable) [
      | inr r ↦ ap length (scattered_over m p ps at bs r) ∙ size_kept size m ps at bs is rest
      | inl w ↦ elim (cases_lt at p.len) [
        | inr past ↦ ap length (scattered_past m p ps at bs w past) ∙ size_kept size m ps (at - p.len) bs is rest
        | inl lt ↦ ap length (scattered_into m p ps at bs w lt) ∙ size_kept size (with_bytes m (p.addr + at) (take (p.len - at) bs)) ps 0 (drop (p.len - at) bs) (same_size m p at bs (rw is here) lt ∙ is) rest
      ]
    ]

pub scatter_keeps_size : (m : List ℕ) (parts : List Part) (at : ℕ) (bs : List ℕ) → PartsFit (length m) parts → length (all_written m (scatter_writes parts at bs)) ≡ length m
scatter_keeps_size m parts at bs fit = size_kept (length m) m parts at bs refl fit.inside

two_goes : (size : ℕ) (m : List ℕ) (parts : List Part) (at : ℕ) (a b : List ℕ) → length m ≡ size → AllPass (inside size) parts
    → scattered (scattered m parts at a) parts (at + length a) b ≡ scattered m parts at (a ++ b)
two_goes size m [] at a b is all = refl
two_goes size m (p ∷ ps) at a b is all =
    let here : inside size p ≡ true = All-head (λ (q : Part). inside size q ≡ true) p ps all in
    let rest : AllPass (inside size) ps = All-tail (λ (q : Part). inside size q ≡ true) p ps all in
    elim (true_or_false p.writable) [
      | inr r ↦
          scattered_over (scattered m (p ∷ ps) at a) p ps (at + length a) b r
          ∙ ap (λ (n : List ℕ). scattered n ps (at + length a) b) (scattered_over m p ps at a r)
          ∙ two_goes size m ps at a b is rest
          ∙ sym (scattered_over m p ps at (a ++ b) r)
      | inl w ↦ elim (cases_lt at p.len) [
        -- both begin behind the part
        | inr past ↦
            let e : at + length a - p.len ≡ at - p.len + length a = omega arith in
            scattered_past (scattered m (p ∷ ps) at a) p ps (at + length a) b w (omega arith)
            ∙ ap (λ (n : List ℕ). scattered n ps (at + length a - p.len) b) (scattered_past m p ps at a w past)
            ∙ ap (λ (k : ℕ). scattered (scattered m ps (at - p.len) a) ps k b) e
            ∙ two_goes size m ps (at - p.len) a b is rest
            ∙ sym (scattered_past m p ps at (a ++ b) w past)
        | inl lt ↦ elim (cases_lt (at + length a) p.len) [
          -- the first ends inside the part, and the second goes on there
          | inl short ↦
              let x : ℕ = p.addr + at in
              let ta : take (p.len - at) a ≡ a = take_all (p.len - at) a (omega arith) in
              let da : drop (p.len - at) a ≡ [] = drop_all (p.len - at) a (omega arith) in
              let first : scattered m (p ∷ ps) at a ≡ with_bytes m x a =
              scattered_into m p ps at a w lt
              ∙ ap (λ (bs : List ℕ). scattered (with_bytes m x bs) ps 0 (drop (p.len - at) a)) ta
              ∙ ap (λ (bs : List ℕ). scattered (with_bytes m x a) ps 0 bs) da
              ∙ scatter_nothing (with_bytes m x a) ps 0 in
              let left : ℕ = p.len - (at + length a) in
              let k : p.len - at ≡ length a + left = omega arith in
              let tab : take (p.len - at) (a ++ b) ≡ a ++ take left b = ap (λ (i : ℕ). take i (a ++ b)) k ∙ take_over a b left in
              let dab : drop (p.len - at) (a ++ b) ≡ drop left b = ap (λ (i : ℕ). drop i (a ++ b)) k ∙ drop_over a b left in
              let address : p.addr + (at + length a) ≡ x + length a = omega arith in
              let inside_it : x ≤ length m = omega (arith, room size p at here lt, is) in
              scattered_into (scattered m (p ∷ ps) at a) p ps (at + length a) b w short
              ∙ ap (λ (n : List ℕ). scattered (with_bytes n (p.addr + (at + length a)) (take left b)) ps 0 (drop left b)) first
              ∙ ap (λ (i : ℕ). scattered (with_bytes (with_bytes m x a) i (take left b)) ps 0 (drop left b)) address
              ∙ ap (λ (n : List ℕ). scattered n ps 0 (drop left b)) (with_more m x a (take left b) inside_it)
              ∙ sym (scattered_into m p ps at (a ++ b) w lt
              ∙ ap (λ (bs : List ℕ). scattered (with_bytes m x bs) ps 0 (drop (p.len - at) (a ++ b))) tab
              ∙ ap (λ (bs : List ℕ). scattered (with_bytes m x (a ++ take left b)) ps 0 bs) dab)
          -- the first fills the part
          | inr full ↦
              let n : List ℕ = with_bytes m (p.addr + at) (take (p.len - at) a) in
              let more : List ℕ = drop (p.len - at) a in
              let e : at + length a - p.len ≡ 0 + length more = omega (arith, length-drop (p.len - at) a) in
              let tab : take (p.len - at) (a ++ b) ≡ take (p.len - at) a = take-append-le (p.len - at) a b (omega arith) in
              let dab : drop (p.len - at) (a ++ b) ≡ more ++ b = drop-append-le (p.len - at) a b (omega arith) in
              scattered_past (scattered m (p ∷ ps) at a) p ps (at + length a) b w full
              ∙ ap (λ (v : List ℕ). scattered v ps (at + length a - p.len) b) (scattered_into m p ps at a w lt)
              ∙ ap (λ (k : ℕ). scattered (scattered n ps 0 more) ps k b) e
              ∙ two_goes size n ps 0 more b (same_size m p at a (rw is here) lt ∙ is) rest
              ∙ sym (scattered_into m p ps at (a ++ b) w lt
              ∙ ap (λ (bs : List ℕ). scattered (with_bytes m (p.addr + at) bs) ps 0 (drop (p.len - at) (a ++ b))) tab
              ∙ ap (λ (bs : List ℕ). scattered n ps 0 bs) dab)
        ]
      ]
    ]

pub scatter_in_two_lem : (m : List ℕ) (parts : List Part) (at : ℕ) (a b : List ℕ) → PartsFit (length m) parts
    → all_written (all_written m (scatter_writes parts at a)) (scatter_writes parts (at + length a) b) ≡ all_written m (scatter_writes parts at (a ++ b))
scatter_in_two_lem m parts at a b fit = two_goes (length m) m parts at a b refl fit.inside
