-- Lists of moves, and lists read by `get_elem?`.
use Rattle.std.proofs.Common.{◌≡◌, ◌≢◌, ℕ, ◌+◌, zero, suc, List, [], ◌∷◌, ◌++◌, length, sym, refl, ap, ◌∙◌, ⊎_elim, inl, inr, ◌⊎◌, arith, ne_eqb, eq-eqb}
use Rattle.std.proofs.lemmas.List.{map-append}
use Rattle.std.proofs.lemmas.List.Elements.{filter-append}
use Rattle.std.specs.List.{filter}
use mathlib.Core.Option.{some, some-injective, some-ne-none}
use lib.ListN.{get_elem?}
use Rattle.unit_model.specs.Jobs.{PlainJob}
use Rattle.handoff.specs.Moves.{Move, move}
use Rattle.handoff.specs.Inner.Moves.{Moves, jobs_of, jobs_by, is_by, IsBelow, AreBelow}

pub jobs_of_append : (xs ys : List Move) → jobs_of (xs ++ ys) ≡ jobs_of xs ++ jobs_of ys
jobs_of_append xs ys = map-append (λ m. m.job) xs ys

pub jobs_by_append : (seat : ℕ) (xs ys : List Move) → jobs_by seat (xs ++ ys) ≡ jobs_by seat xs ++ jobs_by seat ys
jobs_by_append seat xs ys =
    ap jobs_of (filter-append (is_by seat) xs ys) ∙ jobs_of_append (filter (is_by seat) xs) (filter (is_by seat) ys)

-- one's own move
pub jobs_by_own : (seat : ℕ) (job : PlainJob) → jobs_by seat (move seat job ∷ []) ≡ job ∷ []
jobs_by_own seat job = rw (eq-eqb seat seat refl) refl

-- another's move
pub jobs_by_other : (mine other : ℕ) (job : PlainJob) → other ≢ mine → jobs_by mine (move other job ∷ []) ≡ []
jobs_by_other mine other job ne = rw (ne_eqb other mine ne) refl

pub below_append : (n : ℕ) (xs ys : List Move) → IsBelow n xs → IsBelow n ys → IsBelow n (xs ++ ys)
below_append n [] ys a b = b
below_append n (m ∷ ms) ys a b = (a.0, below_append n ms ys a.1 b)

below_more : (n : ℕ) (xs : List Move) → IsBelow n xs → IsBelow (n + 1) xs
below_more n [] a = tt
below_more n (m ∷ ms) a = ((let lt = a.0 in omega arith), below_more n ms a.1)

pub all_below_more : (n : ℕ) (all : Moves) → AreBelow n all → AreBelow (n + 1) all
all_below_more n all b = record {
  gone = below_more n all.gone b.gone;
  left = below_more n all.left b.left;
  takes = below_more n all.takes b.takes;
}

-- who has made no move
pub jobs_by_none : (n : ℕ) (xs : List Move) → IsBelow n xs → jobs_by n xs ≡ []
jobs_by_none n [] a = refl
jobs_by_none n (m ∷ ms) a = let lt = a.0 in let ne : m.seat ≢ n = λ e. omega arith in rw (ne_eqb m.seat n ne) (jobs_by_none n ms a.1)

-- the oldest of the puts that are left
pub front : (left : List Move) (job : PlainJob) (items : List PlainJob) → jobs_of left ≡ job ∷ items
    → (m : Move) × (rest : List Move) × (left ≡ m ∷ rest) × (m.job ≡ job) × (jobs_of rest ≡ items)
front [] job items e = absurd cc
front (m ∷ rest) job items e = (m, rest, refl, cc, cc)

pub at_end : {A : Type 0} (l : List A) (a b : A) (j : ℕ) → get_elem? (l ++ a ∷ []) j ≡ some b → (get_elem? l j ≡ some b) ⊎ ((j ≡ length l) × (a ≡ b))
at_end [] a b zero e = inr (refl, some-injective a b e)
at_end [] a b (suc j) e = absurd (some-ne-none b (sym e))
at_end (x ∷ xs) a b zero e = inl e
at_end (x ∷ xs) a b (suc j) e = ⊎_elim (λ q. inl q) (λ q. inr (ap suc q.0, q.1)) (at_end xs a b j e)
