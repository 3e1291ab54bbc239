-- What the loops over a seat's ends, and over the chiefs, keep.
use Rattle.std.proofs.Common.{◌≡◌, ◌≢◌, ℕ, ◌+◌, ◌<◌, ◌≤◌, zero, suc, List, [], ◌∷◌, ◌++◌, Some, length, map, refl, sym, ap, ◌∙◌, subst, arith, inl, inr, ne_eqb, eq-eqb}
use Rattle.std.proofs.lemmas.List.{length-map, map-append}
use Rattle.std.specs.Prelude.{slice_get, slice_set, ◌==◌, if◌then◌else◌}
use Rattle.atomic_table.specs.Seated.{TableId}
use Rattle.unit_model.specs.Jobs.{PlainJob}
use Rattle.handoff.specs.Inner.Moves.{AreSettled}
use Rattle.handoff.specs.Inner.Rule.{joined}
use Rattle.handoff.specs.Ends.{PlainLane, PlainEnd}
use Rattle.handoff.specs.Inner.Ends.{knowing}
use Rattle.handoff.specs.Seats.{Hub}
use Rattle.handoff.specs.Lanes.{hub_of}
use Rattle.handoff.specs.Inner.Lanes.{AreAt, HaveCapacity, end_of, at_each, lead}
use Rattle.handoff.proofs.Lists.{nothing, same, get_here, get_else, map_set_same, below_or_at}

-- the rest of a list, from an index on
abbrev pub Follows : {X : Type 0} → List X → ℕ → List X → Type 0
Follows xs at rest = (j : ℕ) → slice_get xs (at + j) ≡ slice_get rest j

pub follows_first : {X : Type 0} (xs rest next : List X) (at : ℕ) (x : X) → Follows xs at rest → rest ≡ x ∷ next
    → slice_get xs at ≡ Some x
follows_first xs rest next at x f e =
    let zero_on : at ≡ at + 0 = omega arith in
    ap (λ n. slice_get xs n) zero_on ∙ f 0 ∙ ap (λ l. slice_get l 0) e

pub follows_next : {X : Type 0} (xs rest next : List X) (at : ℕ) (x : X) → Follows xs at rest → rest ≡ x ∷ next
    → Follows xs (at + 1) next
follows_next xs rest next at x f e j =
    let on : at + 1 + j ≡ at + suc j = omega arith in
    ap (λ n. slice_get xs n) on ∙ f (suc j) ∙ ap (λ l. slice_get l (suc j)) e

pub follows_all : {X : Type 0} (xs rest : List X) → rest ≡ xs → Follows xs 0 rest
follows_all xs rest e j =
    let on : 0 + j ≡ j = omega arith in
    ap (λ n. slice_get xs n) on ∙ ap (λ l. slice_get l j) (sym e)

-- ends of the queues of a hand-off
module _ (h : Hub) (capacity : ℕ) (lanes : List PlainLane) (ends : List PlainEnd) (a : AreAt h ends)
    (e : hub_of capacity lanes ≡ h) where
  pub queues_are : map (λ (p : PlainEnd). p.queue) ends ≡ map (λ (l : PlainLane). l.queue) lanes
  queues_are = a ∙ sym (ap (λ (z : Hub). z.queues) e)

  pub many_are : length ends ≡ length lanes
  many_are =
      let x = length-map ends (λ (p : PlainEnd). p.queue) in
      let y = length-map lanes (λ (l : PlainLane). l.queue) in
      let z = ap length queues_are in
      omega (arith, x, y, z)

-- the chiefs have taken in the ends so far
pub record Taking (ids : List TableId) (old ends chiefs : List PlainEnd) (at : ℕ) (after : List PlainEnd) : Type 0 where
  pub queues : map (λ (p : PlainEnd). p.queue) chiefs ≡ ids
  pub rest : Follows ends at after
  pub done : (q : ℕ) (c p : PlainEnd) → q < at → slice_get old q ≡ Some c → slice_get ends q ≡ Some p
      → slice_get chiefs q ≡ Some (knowing (joined c.knows p.knows) c)
  pub todo : (q : ℕ) (c : PlainEnd) → at ≤ q → slice_get old q ≡ Some c → slice_get chiefs q ≡ Some c

pub take_more : (ids : List TableId) (old ends chiefs : List PlainEnd) (at : ℕ) (rest next : List PlainEnd)
    (chief end new : PlainEnd) → Taking ids old ends chiefs at rest → rest ≡ end ∷ next
    → slice_get chiefs at ≡ Some chief → new ≡ knowing (joined chief.knows end.knows) chief
    → Taking ids old ends (slice_set chiefs at new) (at + 1) next
take_more ids old ends chiefs at rest next chief end new t e there is =
    record {
      queues =
          map_set_same (λ (p : PlainEnd). p.queue) chiefs at chief new there (ap (λ (p : PlainEnd). p.queue) is)
          ∙ t.queues;
      rest = follows_next ends rest next at end t.rest e;
      done = λ q c p lt c_at p_at.
          elim (below_or_at q at lt) [
            | inl less ↦
                let ne : q ≢ at = λ z. omega (arith, less, z) in
                get_else chiefs at q new ne ∙ t.done q c p less c_at p_at
            | inr here ↦
                let c_is : chief ≡ c =
                same (sym there ∙ t.todo at c (omega arith) (ap (λ n. slice_get old n) (sym here) ∙ c_at)) in
                let p_is : end ≡ p =
                same (sym (follows_first ends rest next at end t.rest e) ∙ ap (λ n. slice_get ends n) (sym here) ∙ p_at) in
                ap (λ n. slice_get (slice_set chiefs at new) n) here ∙ get_here chiefs at chief new there
                ∙ ap Some (is ∙ ap (λ z. knowing (joined z.knows end.knows) z) c_is
                ∙ ap (λ (z : PlainEnd). knowing (joined c.knows z.knows) c) p_is)
          ];
      todo = λ q c le c_at.
          let ne : q ≢ at = λ z. omega (arith, le, z) in
          get_else chiefs at q new ne ∙ t.todo q c (omega (arith, le)) c_at;
    }

-- what was learned of the queues so far
abbrev pub Known : List PlainEnd → ℕ → Type 0
Known chiefs at =
    (left : ℕ → List PlainJob)
    × ((q : ℕ) (c : PlainEnd) → q < at → slice_get chiefs q ≡ Some c → AreSettled c.knows.accounts (left q))

pub none_known : (chiefs : List PlainEnd) → Known chiefs 0
none_known chiefs = (λ q. [], λ q c lt at. absurd (omega (arith, lt)))

placing : ℕ → List PlainJob → (ℕ → List PlainJob) → ℕ → List PlainJob
placing at jobs left q = if q == at then jobs else left q

placed_here : (at : ℕ) (jobs : List PlainJob) (left : ℕ → List PlainJob) (q : ℕ) → q ≡ at → placing at jobs left q ≡ jobs
unfolding placing
placed_here at jobs left q e = rw (eq-eqb q at e) refl

placed_else : (at : ℕ) (jobs : List PlainJob) (left : ℕ → List PlainJob) (q : ℕ) → q ≢ at → placing at jobs left q ≡ left q
unfolding placing
placed_else at jobs left q ne = rw (ne_eqb q at ne) refl

pub more_known : (chiefs : List PlainEnd) (at : ℕ) (chief : PlainEnd) (jobs : List PlainJob) → Known chiefs at
    → slice_get chiefs at ≡ Some chief → AreSettled chief.knows.accounts jobs → Known chiefs (at + 1)
more_known chiefs at chief jobs k there learned = (
  placing at jobs k.0,
  λ q c lt c_at.
      elim (below_or_at q at lt) [
        | inl less ↦
            let ne : q ≢ at = λ z. omega (arith, less, z) in
            subst (AreSettled c.knows.accounts) (sym (placed_else at jobs k.0 q ne)) (k.1 q c less c_at)
        | inr here ↦
            let c_is : chief ≡ c = same (sym there ∙ ap (λ n. slice_get chiefs n) (sym here) ∙ c_at) in
            subst (AreSettled c.knows.accounts) (sym (placed_here at jobs k.0 q here))
            (subst (λ (z : PlainEnd). AreSettled z.knows.accounts jobs) c_is learned)
      ],
)

-- one more queue
pub capacity_more : (n : ℕ) (lanes : List PlainLane) (l : PlainLane) → HaveCapacity n lanes → l.capacity ≡ n
    → HaveCapacity n (lanes ++ l ∷ [])
capacity_more n [] l h e zero x at = ap (λ (z : PlainLane). z.capacity) (sym (same at)) ∙ e
capacity_more n [] l h e (suc q) x at = absurd (nothing at)
capacity_more n (y ∷ lanes) l h e zero x at = h 0 x at
capacity_more n (y ∷ lanes) l h e (suc q) x at = capacity_more n lanes l (λ i z there. h (suc i) z there) e q x at

pub chiefs_more : (lanes : List PlainLane) (l : PlainLane) (chiefs : List PlainEnd) (p : PlainEnd)
    → chiefs ≡ at_each (lead 1) lanes → p ≡ end_of (lead 1) l → chiefs ++ p ∷ [] ≡ at_each (lead 1) (lanes ++ l ∷ [])
chiefs_more lanes l chiefs p e is =
    ap (λ cs. cs ++ p ∷ []) e ∙ ap (λ z. at_each (lead 1) lanes ++ z ∷ []) is
    ∙ sym (map-append (end_of (lead 1)) lanes (l ∷ []))
