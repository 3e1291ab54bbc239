-- What was put is what was taken and what is left.
use Rattle.std.proofs.Common.{◌≡◌, ◌≢◌, ℕ, ◌+◌, ◌<◌, ◌≤◌, true, false, eqb, Some, suc, List, [], ◌∷◌, length, refl, sym, ap, ◌∙◌, arith, ne_eqb, ⊎_elim}
use Rattle.std.proofs.lemmas.Bool.Decides.{eqb_tells}
use Rattle.std.proofs.lemmas.List.Sums.{sum_by-cons, sum_by-append}
use Rattle.std.proofs.lemmas.Option.{slice_get_within}
use Rattle.std.specs.Prelude.{◌==◌, if◌then◌else◌, slice_get}
use Rattle.std.specs.List.{sum_by, filter}
use Rattle.unit_model.specs.Jobs.{PlainJob}
use Rattle.unit_model.specs.Tasks.{same_ticket}
use Rattle.handoff.specs.Moves.{Move}
use Rattle.handoff.specs.Inner.Moves.{jobs_of, jobs_by, is_by, IsBelow}
use Rattle.handoff.specs.Seats.{Hub, PlainSeat}
use Rattle.handoff.specs.Inner.Seats.{AreSeatsFrom, HandedOver, all_put, all_taken, all_left, IsEven, IsEvenByTicket, AreGathered}
use Rattle.handoff.proofs.Gathering.{AreBelow}

-- the moves of these seats, weighed
of_all : (PlainJob → ℕ) → List Move → List PlainSeat → ℕ
of_all weight ms [] = 0
of_all weight ms (s ∷ ss) = sum_by weight (jobs_by s.number ms) + of_all weight ms ss

only : ℕ → ℕ → ℕ → ℕ
only w a b = if a == b then w else 0

-- the seats with this number, weighed
at_seat : ℕ → ℕ → List PlainSeat → ℕ
at_seat w k [] = 0
at_seat w k (s ∷ ss) = only w k s.number + at_seat w k ss

of_one : (weight : PlainJob → ℕ) (m : Move) (ms : List Move) (n : ℕ)
    → sum_by weight (jobs_by n (m ∷ ms)) ≡ only (weight m.job) m.seat n + sum_by weight (jobs_by n ms)
unfolding only
of_one weight m ms n = elim (m.seat == n) as (λ b. sum_by weight (jobs_of (if b then m ∷ filter (is_by n) ms else filter (is_by n) ms)) ≡ (if b then weight m.job else 0) + sum_by weight (jobs_by n ms)) [
  | true ↦ sum_by-cons weight m.job (jobs_by n ms)
  | false ↦ omega arith
]

of_more : (weight : PlainJob → ℕ) (m : Move) (ms : List Move) (ss : List PlainSeat)
    → of_all weight (m ∷ ms) ss ≡ at_seat (weight m.job) m.seat ss + of_all weight ms ss
unfolding of_all at_seat
of_more weight m ms [] = refl
of_more weight m ms (s ∷ ss) = let a = of_one weight m ms s.number in let b = of_more weight m ms ss in omega (arith, a, b)

none_there : (hub : Hub) (w j k : ℕ) (ss : List PlainSeat) → AreSeatsFrom hub k ss → j < k → at_seat w j ss ≡ 0
unfolding at_seat only
none_there hub w j k [] a lt = refl
none_there hub w j k (s ∷ ss) a lt = let number = a.1 in let ne : j ≢ s.number = λ z. omega arith in
    let rest = none_there hub w j (k + 1) ss a.2 (omega arith) in rw (ne_eqb j s.number ne) (omega (arith, rest))

one_there : (hub : Hub) (w j k : ℕ) (ss : List PlainSeat) → AreSeatsFrom hub k ss → k ≤ j → j < k + length ss → at_seat w j ss ≡ w
unfolding at_seat only
one_there hub w j k [] a le lt = absurd (omega arith)
one_there hub w j k (s ∷ ss) a le lt =
    let number = a.1 in
    ⊎_elim (λ (q : (eqb j s.number ≡ true) × (j ≡ s.number)). let is = q.1 in let rest = none_there hub w j (k + 1) ss a.2 (omega arith) in rw q.0 (omega (arith, rest)))
    (λ (q : (eqb j s.number ≡ false) × (j ≢ s.number)). let ne = q.1 in let lower : k + 1 ≤ j = omega arith in let rest = one_there hub w j (k + 1) ss a.2 lower (omega arith) in rw q.0 (omega (arith, rest))) (eqb_tells j s.number)

-- over all seats, the moves are all moves
all_moves : (weight : PlainJob → ℕ) (hub : Hub) (ss : List PlainSeat) (ms : List Move) → AreSeatsFrom hub 0 ss
    → IsBelow (length ss) ms → of_all weight ms ss ≡ sum_by weight (jobs_of ms)
unfolding of_all
all_moves weight hub ss [] a b = nothing ss where
  nothing : (ss : List PlainSeat) → of_all weight [] ss ≡ 0
  nothing [] = refl
  nothing (s ∷ ss) = omega (arith, nothing ss)
all_moves weight hub ss (m ∷ ms) a b =
    let e = one_there hub (weight m.job) m.seat 0 ss a (omega arith) (let lt = b.0 in omega arith) in
    let r = all_moves weight hub ss ms a b.1 in
    let t = of_more weight m ms ss in
    let c = sum_by-cons weight m.job (jobs_of ms) in
    omega (arith, e, r, t, c)

-- what these seats took from the queue of one, weighed
from_one : (PlainJob → ℕ) → ℕ → List PlainSeat → ℕ
from_one weight q [] = 0
from_one weight q (s ∷ ss) = sum_by weight (jobs_by q s.taken) + from_one weight q ss

-- and from the queues of several
from_each : (PlainJob → ℕ) → List PlainSeat → List PlainSeat → ℕ
from_each weight [] ss = 0
from_each weight (t ∷ ts) ss = from_one weight t.number ss + from_each weight ts ss

-- added up by the seats that took it is the same
one_more : (weight : PlainJob → ℕ) (ts : List PlainSeat) (s : PlainSeat) (ss : List PlainSeat)
    → from_each weight ts (s ∷ ss) ≡ of_all weight s.taken ts + from_each weight ts ss
unfolding from_each from_one of_all
one_more weight [] s ss = refl
one_more weight (t ∷ ts) s ss = let a = one_more weight ts s ss in omega (arith, a)

none_took : (weight : PlainJob → ℕ) (ts : List PlainSeat) → from_each weight ts [] ≡ 0
unfolding from_each from_one
none_took weight [] = refl
none_took weight (t ∷ ts) = let a = none_took weight ts in omega (arith, a)

taken_is : (weight : PlainJob → ℕ) (hub : Hub) (all ss : List PlainSeat) → AreSeatsFrom hub 0 all → AreBelow (length all) ss
    → from_each weight all ss ≡ sum_by weight (all_taken ss)
taken_is weight hub all [] a b = none_took weight all
taken_is weight hub all (s ∷ ss) a b =
    let r = taken_is weight hub all ss a b.1 in
    let e = all_moves weight hub all s.taken a b.0 in
    let t = one_more weight all s ss in
    let w = sum_by-append weight (jobs_of s.taken) (all_taken ss) in
    omega (arith, r, e, t, w)

-- what these seats took from a queue are its takes
takes_are : (weight : PlainJob → ℕ) (q n : ℕ) (ms : List Move) (ss : List PlainSeat) (hub : Hub) → AreSeatsFrom hub n ss
    → ((k : ℕ) (s : PlainSeat) → slice_get ss k ≡ Some s → jobs_by q s.taken ≡ jobs_by (n + k) ms)
    → from_one weight q ss ≡ of_all weight ms ss
unfolding from_one of_all
takes_are weight q n ms [] hub a each = refl
takes_are weight q n ms (s ∷ ss) hub a each =
    let here : jobs_by q s.taken ≡ jobs_by s.number ms =
    each 0 s refl ∙ ap (λ k. jobs_by k ms) (omega (arith, a.1)) in
    let r = takes_are weight q (n + 1) ms ss hub a.2 (λ k t at.
    each (suc k) t at ∙ ap (λ j. jobs_by j ms) (omega arith)) in
    let e = ap (sum_by weight) here in
    omega (arith, r, e)

plus : (k : ℕ) → 0 + k ≡ k
plus k = omega arith

module _ (hub : Hub) (all : List PlainSeat) (a : AreSeatsFrom hub 0 all) (left : ℕ → List PlainJob)
    (h : (q : ℕ) → q < length all → HandedOver all q (left q)) (weight : PlainJob → ℕ) where
  -- what one seat put
  one_put : (q : ℕ) (s : PlainSeat) → slice_get all q ≡ Some s
      → sum_by weight s.put ≡ from_one weight q all + sum_by weight (left q)
  one_put q s at =
      let k = h q (slice_get_within all q s at) in
      let e = ap (sum_by weight) (k.put s at) in
      let p = sum_by-append weight (jobs_of k.takes) (left q) in
      let t = takes_are weight q 0 k.takes all hub a (λ j t there.
      k.each j t there ∙ ap (λ (n : ℕ). jobs_by n k.takes) (sym (plus j))) in
      let m = all_moves weight hub all k.takes a k.theirs in
      omega (arith, e, p, t, m)

  put_is : (n : ℕ) (ss : List PlainSeat) → AreSeatsFrom hub n ss
      → ((k : ℕ) (s : PlainSeat) → slice_get ss k ≡ Some s → slice_get all (n + k) ≡ Some s)
      → sum_by weight (all_put ss) ≡ from_each weight ss all + sum_by weight (all_left left ss)
  unfolding from_each
  put_is n [] b part = refl
  put_is n (s ∷ ss) b part =
      let at : slice_get all s.number ≡ Some s = ap (slice_get all) (omega (arith, b.1)) ∙ part 0 s refl in
      let o = one_put s.number s at in
      let r = put_is (n + 1) ss b.2 (λ k t there. ap (slice_get all) (omega arith) ∙ part (suc k) t there) in
      let p = sum_by-append weight s.put (all_put ss) in
      let l = sum_by-append weight (left s.number) (all_left left ss) in
      omega (arith, o, r, p, l)

pub even : (hub : Hub) (all : List PlainSeat) (left : ℕ → List PlainJob) → AreSeatsFrom hub 0 all
    → AreBelow (length all) all → ((q : ℕ) → q < length all → HandedOver all q (left q)) → IsEven all (all_left left all)
even hub all left a b h weight =
    let p = put_is hub all a left h weight 0 all a (λ k s at. ap (λ (n : ℕ). slice_get all n) (plus k) ∙ at) in
    let t = taken_is weight hub all all a b in
    omega (arith, p, t)

-- counting the jobs of a ticket is weighing them
even_by_ticket : (ss : List PlainSeat) (items : List PlainJob) → IsEven ss items → IsEvenByTicket ss items
even_by_ticket ss items e ticket = e (λ j. if same_ticket ticket j.chain.ticket then 1 else 0)

pub gathered : (hub : Hub) (all : List PlainSeat) (left : ℕ → List PlainJob) → AreSeatsFrom hub 0 all
    → AreBelow (length all) all → ((q : ℕ) → q < length all → HandedOver all q (left q)) → AreGathered all left
gathered hub all left a b h =
    let e = even hub all left a b h in
    record { each = h; even = e; by_ticket = even_by_ticket all (all_left left all) e }
