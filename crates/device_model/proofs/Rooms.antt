-- The lists of jobs have room.
use Rattle.std.proofs.Common.{◌≡◌, ℕ, ◌+◌, ◌*◌, ◌<◌, ◌≤◌, true, false, eqb, cond, List, [], ◌∷◌, ◌++◌, length, Some, refl, sym, ◌∙◌, ap, arith, zero, suc, length-append, length-drop, drop}
use Rattle.std.specs.Prelude.{slice_get}
use Rattle.std.specs.List.{AllByRecursion, sum_by}
use Rattle.std.proofs.lemmas.Bool.{eq-eqb}
use Rattle.std.proofs.lemmas.List.Sums.{sum_by-cons, sum_by-append}
use Rattle.std.proofs.lemmas.Option.{slice_get_within}
use Rattle.unit_model.specs.Steps.{alive}
use Rattle.unit_model.specs.Weights.{each_one}
use Rattle.unit_model.proofs.Tickets.{clash}
use Rattle.unit_model.proofs.Weight.{weight_ones}
use Rattle.unit_model.proofs.Few.{alive_few}
use Rattle.unit_model.specs.Jobs.{PlainJob}
use Rattle.unit_model.specs.Unit.{PlainUnit}
use Rattle.device_model.specs.World.{Seat, PlainWorld, Opens, Everywhere, all_off}
use Rattle.device_model.specs.Transitions.{Transition}
use Rattle.device_model.specs.After.{after}
use Rattle.device_model.specs.Changing.{with_job}
use Rattle.device_model.specs.Happens.{MayHappen, Occurrence, Runs}
use Rattle.device_model.proofs.Staying.{run_keeps, run_stays, everywhere}
use Rattle.device_model.proofs.Sums.{counts_one}
use Rattle.device_model.proofs.Tasks.{of_index, seat_count}
use Rattle.device_model.proofs.Working.{ToCommit, Works}
use Rattle.device_model.proofs.Lists.{same}
use Rattle.device_model.proofs.Named.{all_push}
use Rattle.device_model.proofs.Off.{between_parts}

-- Indices

-- each index below the end has its item
pub below_found : {X : Type 0} (xs : List X) (i : ℕ) → i < length xs → (x : X) × (slice_get xs i ≡ Some x)
below_found [] i h = absurd (omega (arith, h))
below_found (y ∷ xs) zero h = (y, refl)
below_found (y ∷ xs) (suc i) h = below_found xs i (omega (arith, h))

-- 1 for an index below this one
abbrev below : ℕ → ℕ → ℕ
below zero i = 0
below (suc n) i = below n i + cond (eqb i n) 1 0

one_below : (n i : ℕ) → i < n → 1 ≤ below n i
one_below zero i h = absurd (omega (arith, h))
one_below (suc n) i h =
    (elim (eqb i n) as (λ b. eqb i n ≡ b → 1 ≤ below n i + cond b 1 0) [
      | true ↦ λ q. omega (arith)
      | false ↦ λ q.
          let no : (i ≡ n → ⊥) = λ e. clash (sym (eq-eqb i n e) ∙ q) in
          let a = one_below n i (omega (arith, h, no)) in
          omega (arith, a)
    ]) refl

-- the jobs for units below an index
abbrev under : ℕ → List PlainJob → ℕ
under n xs = sum_by (λ (x : PlainJob). below n x.unit) xs

under_next : (n : ℕ) (xs : List PlainJob) → under (suc n) xs ≡ under n xs + sum_by (of_index n each_one) xs
under_next n [] = refl
under_next n (x ∷ xs) =
    let a = under_next n xs in
    let b = sum_by-cons (λ (y : PlainJob). below (suc n) y.unit) x xs in
    let c = sum_by-cons (λ (y : PlainJob). below n y.unit) x xs in
    let d = sum_by-cons (of_index n each_one) x xs in
    omega (arith, a, b, c, d)

under_zero : (xs : List PlainJob) → under zero xs ≡ 0
under_zero [] = refl
under_zero (x ∷ xs) =
    let a = under_zero xs in
    let b = sum_by-cons (λ (y : PlainJob). below zero y.unit) x xs in
    omega (arith, a, b)

-- where no unit has more jobs than this, all those below an index have no more than so many times it
few_under : (m n : ℕ) (xs : List PlainJob) → ((i : ℕ) → i < n → sum_by (of_index i each_one) xs ≤ m)
    → under n xs ≤ m * n
few_under m zero xs h = let a = under_zero xs in omega (arith, a)
few_under m (suc n) xs h =
    let a = few_under m n xs (λ i l. h i (omega (arith, l))) in
    let b = under_next n xs in
    let c = h n (omega (arith)) in
    let e : m * suc n ≡ m * n + m = search (arith) in
    omega (arith, a, b, c, e)

all_under : (us : List PlainUnit) (xs : List PlainJob) → AllByRecursion (ToCommit us) xs
    → length xs ≤ under (length us) xs
all_under us [] h = omega (arith)
all_under us (x ∷ xs) h =
    let a = all_under us xs h.1 in
    let b = one_below (length us) x.unit (slice_get_within us x.unit h.0.0 h.0.1) in
    let c = sum_by-cons (λ (y : PlainJob). below (length us) y.unit) x xs in
    omega (arith, a, b, c)

-- a seat has no more jobs of a unit than there may be tasks
few_of : (w : PlainWorld) (k : ℕ) (s : Seat) → Works w → slice_get w.seats k ≡ Some s → (n : ℕ) → n < length w.units
    → sum_by (of_index n each_one) s.out ≤ 64
few_of w k s h at n l =
    let u = below_found w.units n l in
    let is = h.0 n u.0 u.1 in
    let b = h.2 n each_one u.0 u.1 in
    let o = weight_ones (alive u.0.steps) in
    let f = alive_few u.0.opening u.0.steps is.lawful in
    let c = counts_one (seat_count n each_one) k w.seats s at in
    omega (arith, b, o, f, c)

pub seats_room : (w : PlainWorld) → Works w → Everywhere (λ k s. length s.out ≤ 64 * length w.units) w.seats
seats_room w h k s at =
    let a = all_under w.units s.out (h.3.0 k s at).1 in
    let b = few_under 64 (length w.units) s.out (few_of w k s h at) in
    omega (arith, a, b)

-- nor do more wait, or are to be tried again
few_wait : (w : PlainWorld) → Works w → (n : ℕ) → n < length w.units
    → sum_by (of_index n each_one) (w.aside ++ w.woken) ≤ 64
few_wait w h n l =
    let u = below_found w.units n l in
    let is = h.0 n u.0 u.1 in
    let b = h.2 n each_one u.0 u.1 in
    let o = weight_ones (alive u.0.steps) in
    let f = alive_few u.0.opening u.0.steps is.lawful in
    let c = sum_by-append (of_index n each_one) (all_off w) (w.aside ++ w.woken) in
    omega (arith, b, o, f, c)

pub waiting_room : (w : PlainWorld) → Works w → length w.aside + length w.woken ≤ 64 * length w.units
waiting_room w h =
    let p = between_parts (ToCommit w.units) (all_off w) w.aside w.woken h.3.1 in
    let a = all_under w.units (w.aside ++ w.woken) (all_push (ToCommit w.units) w.aside w.woken p.1 p.2) in
    let b = few_under 64 (length w.units) (w.aside ++ w.woken) (few_wait w h) in
    let c = length-append w.aside w.woken in
    omega (arith, a, b, c)

-- The hand-off

abbrev HasRoom : PlainWorld → Type 0
HasRoom w = Everywhere (λ k jobs. length jobs ≤ w.limit) w.handed_off

transition_room : (d : Transition) (w : PlainWorld) → MayHappen d w → HasRoom w → HasRoom (after d w)
transition_room (Transition.Put k x) w m h =
    everywhere (λ i jobs. length jobs ≤ w.limit) (with_job x) k w.handed_off
    (λ jobs at old.
    let e : length jobs ≡ length m.off = ap (λ (l : List PlainJob). length l) (same (sym at ∙ m.there)) in
    let a = length-append jobs (x ∷ []) in
    omega (arith, a, e, m.room)) h
transition_room (Transition.Take k from x) w m h =
    everywhere (λ i jobs. length jobs ≤ w.limit) (drop 1) from w.handed_off
    (λ jobs at old. let a = length-drop 1 jobs in omega (arith, a, old)) h
transition_room d w m h = h

pub run_room : (old : PlainWorld) (trace : List Occurrence) (w : PlainWorld) → Opens old → Runs old trace w → HasRoom w
run_room old trace w o r =
    run_keeps HasRoom transition_room old trace w
    (λ k jobs at. let z = ap (λ (l : List PlainJob). length l) (o.handed_off k jobs at) in omega (arith, z)) r

-- each seat has its list
pub run_lists : (old : PlainWorld) (trace : List Occurrence) (w : PlainWorld) → Opens old → Runs old trace w
    → length w.handed_off ≡ length w.seats
run_lists old trace w o r =
    let k = run_stays old trace w r in
    k.lists ∙ o.lists ∙ sym k.seats
