-- A seat at its hand-off: it has an end of each queue, and what a call answers says what became of the seat.
use Rattle.std.proofs.Common.{◌≡◌, ℕ, ◌<◌, ◌≤◌, List, [], ◌∷◌, Option, None, Some, IfSome, IfNone, Ok, Err, Result, length, map, sym, ap, ◌∙◌, subst, arith, inl, inr}
use Rattle.std.specs.Prelude.{slice_get, slice_set, OnOk, OnErr, ◌⊎◌}
use Rattle.unit_model.specs.Jobs.{PlainJob}
use Rattle.crossbeam_queue.specs.Fifo.{Held}
use Rattle.handoff.specs.declared.rule.Account.{Account}
use Rattle.handoff.specs.declared.rule.View.{View}
use Rattle.handoff.specs.declared.seat.Taken.{Taken}
use Rattle.handoff.specs.Inner.Moves.{Balances}
use Rattle.handoff.specs.Ends.{PlainLane, PlainEnd}
use Rattle.handoff.specs.Seats.{Hub, PlainSeat, IsSeatOf, IsSameSeat, seat_of}
use Rattle.handoff.specs.Inner.Seats.{putting, taking, account_at, view_at, WasEmpty, TakesNearest}
use Rattle.handoff.specs.Lanes.{hub_of}
use Rattle.handoff.specs.Inner.Lanes.{TakesBetween}
use Rattle.handoff.proofs.Lists.{same, map_get, set_same}

module _ (number capacity : ℕ) (ends : List PlainEnd) (taken : List Taken) (lanes : List PlainLane) (s : PlainSeat) (h : Hub)
    (seat : seat_of number ends taken ≡ s) (hub : hub_of capacity lanes ≡ h) (of : IsSeatOf h s) where
  pub queues_met : map (λ (p : PlainEnd). p.queue) ends ≡ map (λ (l : PlainLane). l.queue) lanes
  queues_met = ap (λ (z : PlainSeat). z.queues) seat ∙ of.queues ∙ sym (ap (λ (z : Hub). z.queues) hub)

  pub count_met : length ends ≡ length lanes
  count_met = ap (λ (z : PlainSeat). z.seats) seat ∙ of.seats ∙ sym (ap (λ (z : Hub). z.seats) hub)

pub same_queue : (lanes : List PlainLane) (ends : List PlainEnd) (q : ℕ) (l : PlainLane) (p : PlainEnd)
    → map (λ (x : PlainEnd). x.queue) ends ≡ map (λ (x : PlainLane). x.queue) lanes → slice_get lanes q ≡ Some l
    → slice_get ends q ≡ Some p → p.queue ≡ l.queue
same_queue lanes ends q l p e at_l at_p =
    same (sym (map_get (λ (x : PlainEnd). x.queue) ends q p at_p) ∙ ap (λ qs. slice_get qs q) e
    ∙ map_get (λ (x : PlainLane). x.queue) lanes q l at_l)

-- What a result says

pub on_either : {A B P Q G : Type 0} (r : Result A B) → OnOk r P → OnErr r Q → (P → G) → (Q → G) → G
on_either (Ok x) p q f g = f p
on_either (Err e) p q f g = g q

pub on_ok : {A B P Q : Type 0} (r : Result A B) → OnOk r P → (P → Q) → OnOk r Q
on_ok (Ok x) p f = f p
on_ok (Err e) p f = tt

pub on_err : {A B P Q : Type 0} (r : Result A B) → OnErr r P → (P → Q) → OnErr r Q
on_err (Ok x) p f = tt
on_err (Err e) p f = f p

-- It is the same seat

pub same_put : (old new : PlainSeat) (job : PlainJob) → new ≡ putting old job → IsSameSeat old new
same_put old new job e =
    record {
      queues = ap (λ (z : PlainSeat). z.queues) e;
      number = ap (λ (z : PlainSeat). z.number) e;
      seats = ap (λ (z : PlainSeat). z.seats) e;
    }

pub same_took : (from : ℕ) (old new : PlainSeat) (job : PlainJob) → new ≡ taking from old job → IsSameSeat old new
same_took from old new job e =
    record {
      queues = ap (λ (z : PlainSeat). z.queues) e;
      number = ap (λ (z : PlainSeat). z.number) e;
      seats = ap (λ (z : PlainSeat). z.seats) e;
    }

pub same_still : (old new : PlainSeat) → new ≡ old → IsSameSeat old new
same_still old new e =
    record {
      queues = ap (λ (z : PlainSeat). z.queues) e;
      number = ap (λ (z : PlainSeat). z.number) e;
      seats = ap (λ (z : PlainSeat). z.seats) e;
    }

-- an end that is set as it was changes nothing
pub still : (ends : List PlainEnd) (k : ℕ) (p new : PlainEnd) → slice_get ends k ≡ Some p → new ≡ p
    → slice_set ends k new ≡ ends
still ends k p new at e = ap (λ z. slice_set ends k z) e ∙ set_same ends k p at

pub held_as : (n m : ℕ) (xs ys : List Account) → n ≡ m → xs ≡ ys → Held n (Balances xs) → Held m (Balances ys)
held_as n m xs ys e f h = subst (λ k. Held k (Balances ys)) e (subst (λ z. Held n (Balances z)) f h)

-- what the end of a seat knows is what the seat does
pub accounts_are : (q : ℕ) (s now : PlainSeat) (p : PlainEnd) → p.knows ≡ view_at q s → s ≡ now
    → p.knows.accounts ≡ account_at q now ∷ []
accounts_are q s now p e is = ap (λ (v : View). v.accounts) e ∙ ap (λ (z : PlainSeat). account_at q z ∷ []) is

-- The way round

below_seats : (s : PlainSeat) (q n : ℕ) → n ≤ s.seats → q < n → q < s.seats
below_seats s q n a b = omega (arith, a, b)

-- from the own queue on
pub nearest_after : (old new : PlainSeat) (job : PlainJob) (high : ℕ) → high ≤ old.seats
    → TakesBetween old.number high old new job → TakesNearest old new job
nearest_after old new job high le t =
    record {
      from = t.from;
      there = omega (arith, t.below, le);
      taken = t.taken;
      first = λ q lt before.
          elim before [
            | inl p ↦
                elim p.1 [
                  | inl less ↦ t.first q p.0 less
                  | inr less ↦ absurd (omega (arith, less, t.above))
                ]
            | inr p ↦ absurd (omega (arith, p.1, t.above))
          ];
    }

-- from the beginning to the own queue, where those from that on were empty
pub nearest_before : (old new : PlainSeat) (job : PlainJob) → old.number ≤ old.seats
    → ((q : ℕ) → old.number ≤ q → q < old.seats → WasEmpty old q) → TakesBetween 0 old.number old new job
    → TakesNearest old new job
nearest_before old new job le none t =
    record {
      from = t.from;
      there = omega (arith, t.below, le);
      taken = t.taken;
      first = λ q lt before.
          elim before [
            | inl p ↦ none q p.0 lt
            | inr p ↦ t.first q (omega arith) p.0
          ];
    }

either_side : (q n : ℕ) → (n ≤ q) ⊎ (q < n)
either_side q n = grind arith

pub all_empty : (s : PlainSeat) → ((q : ℕ) → s.number ≤ q → q < s.seats → WasEmpty s q)
    → ((q : ℕ) → 0 ≤ q → q < s.number → WasEmpty s q) → (q : ℕ) → q < s.seats → WasEmpty s q
all_empty s above below q lt =
    elim (either_side q s.number) [
      | inl le ↦ above q le lt
      | inr less ↦ below q (omega arith) less
    ]

pub on_some : {A : Type 0} {P Q : A → Type 0} (o : Option A) → IfSome o P → ((a : A) → P a → Q a) → IfSome o Q
on_some None h f = tt
on_some (Some a) h f = f a h

pub on_none : {A : Type 0} {P Q : Type 0} (o : Option A) → IfNone o P → (P → Q) → IfNone o Q
on_none None h f = f h
on_none (Some a) h f = tt

-- the same seat, by its number
pub between_of : (low : ℕ) (high number : ℕ) (s old new : PlainSeat) (job : PlainJob) → high ≡ number → s ≡ old
    → TakesBetween low high s new job → TakesBetween low number old new job
between_of low high number s old new job e is t =
    subst (λ z. TakesBetween low number z new job) is (subst (λ n. TakesBetween low n s new job) e t)
