-- What is first in the order.
use Rattle.std.proofs.Common.{◌≡◌, ◌⊎◌, inl, inr, ℕ, zero, suc, ◌<◌, Bool, true, false, if◌then◌else◌, List, [], ◌∷◌, ◌++◌, length, subst, refl, ap, ◌∙◌, arith}
use Rattle.device_model.specs.World.{PlainWorld}
use Rattle.device_model.specs.Events.{Event}
use Rattle.device_model.specs.Happens.{MayWant}
use Rattle.device_model.specs.Applies.{Applies}
use Rattle.device_model.specs.Order.{each, of_seat, fetch_of, order_by, IsFirstOf, NoneApplies, IsQuietOf}
use Rattle.device_steps.specs.Settling.{order_for, MayWantFirst}
use Rattle.device_steps.specs.Inner.Cursors.{of_function, NoStart, NoDirectBelow, NoDirect, NoSeatBelow, NoSeat, NoEnterBelow, NoEnter, NoFetchBelow, NoFetch, NoneBeforeFetch}

-- of one of these events something holds, and none before it applies
abbrev pub First : (Event → Type 0) → PlainWorld → List Event → Type 0
First P w [] = ⊥
First P w (x ∷ xs) = P x ⊎ ((Applies w x → ⊥) × First P w xs)

-- the first that applies
abbrev pub Is : PlainWorld → Event → Event → Type 0
Is w e x = Applies w x × (x ≡ e)

pub is_first : (w : PlainWorld) (e : Event) (xs : List Event) → First (Is w e) w xs → IsFirstOf w xs e
is_first w e [] h = absurd h
is_first w e (x ∷ xs) (inl h) = inl h
is_first w e (x ∷ xs) (inr h) = inr (h.0, is_first w e xs h.1)

pub of_first : (w : PlainWorld) (e : Event) (xs : List Event) → IsFirstOf w xs e → First (Is w e) w xs
of_first w e [] h = absurd h
of_first w e (x ∷ xs) (inl h) = inl h
of_first w e (x ∷ xs) (inr h) = inr (h.0, of_first w e xs h.1)

-- or that may be refused memory
abbrev pub Wants : PlainWorld → Event → Type 0
Wants w x = MayWant x w

pub wants_first : (w : PlainWorld) (xs : List Event) → First (Wants w) w xs → MayWantFirst w xs
wants_first w [] h = absurd h
wants_first w (x ∷ xs) (inl h) = inl h
wants_first w (x ∷ xs) (inr h) = inr (h.0, wants_first w xs h.1)

-- Lists

-- what is first stays so with more events behind
front : (P : Event → Type 0) (w : PlainWorld) (xs ys : List Event) → First P w xs → First P w (xs ++ ys)
front P w [] ys h = absurd h
front P w (x ∷ xs) ys (inl h) = inl h
front P w (x ∷ xs) ys (inr h) = inr (h.0, front P w xs ys h.1)

-- and behind events that don't apply
behind : (P : Event → Type 0) (w : PlainWorld) (xs ys : List Event) → NoneApplies w xs → First P w ys
    → First P w (xs ++ ys)
behind P w [] ys none h = h
behind P w (x ∷ xs) ys none h = inr (none.0, behind P w xs ys none.1 h)

none_append : (w : PlainWorld) (xs ys : List Event) → NoneApplies w xs → NoneApplies w ys → NoneApplies w (xs ++ ys)
none_append w [] ys a b = b
none_append w (x ∷ xs) ys a b = (a.0, none_append w xs ys a.1 b)

-- each number below the next is this one or below it
this_or_below : (k n : ℕ) → k < suc n → (k ≡ n) ⊎ (k < n)
this_or_below k n lt = grind arith

-- events of numbers: none applies
none_each : (w : PlainWorld) (f : ℕ → List Event) (n : ℕ) → ((k : ℕ) → k < n → NoneApplies w (f k))
    → NoneApplies w (each f n)
none_each w f zero h = tt
none_each w f (suc n) h =
    none_append w (each f n) (f n) (none_each w f n (λ k lt. h k (omega (arith, lt)))) (h n (omega arith))

-- or those of one number have the first
first_each : (P : Event → Type 0) (w : PlainWorld) (f : ℕ → List Event) (n k : ℕ) → k < n
    → ((j : ℕ) → j < k → NoneApplies w (f j)) → First P w (f k) → First P w (each f n)
first_each P w f zero k lt below h = absurd (omega (arith, lt))
first_each P w f (suc n) k lt below h = elim (this_or_below k n lt) [
  | inl e ↦
      let none = none_each w f n (λ j less. below j (omega (arith, less, e))) in
      behind P w (each f n) (f n) none (subst (λ j. First P w (f j)) e h)
  | inr less ↦ front P w (each f n) (f n) (first_each P w f n k less below h)
]

-- The order

abbrev directs : ℕ → List Event
directs n = each (λ q. Event.Direct q ∷ []) n

abbrev enters : ℕ → List Event
enters n = each (λ q. Event.Enter q ∷ []) n

abbrev fetches : (ℕ → Bool) → ℕ → List Event
fetches asked n = each (fetch_of asked) n

abbrev start : ℕ → List Event
start n = Event.AnswerTmf ∷ Event.Check ∷ Event.Mark ∷ Event.Raise ∷ directs n

none_start : (w : PlainWorld) → NoStart w → NoDirect w → NoneApplies w (start (length w.queues))
none_start w s d =
    let none = none_each w (λ q. Event.Direct q ∷ []) (length w.queues) (λ k lt. (d k lt, tt)) in
    (s.function.0, (s.function.1.0, (s.function.1.1.0, (s.waiting, none))))

none_enters : (w : PlainWorld) → NoEnter w → NoneApplies w (enters (length w.queues))
none_enters w s = none_each w (λ q. Event.Enter q ∷ []) (length w.queues) (λ k lt. (s k lt, tt))

-- an event of the function
pub first_function : (asked : ℕ → Bool) (P : Event → Type 0) (w : PlainWorld) → First P w of_function → First P w (order_for asked w)
unfolding order_by
first_function asked P w h =
    let qs = length w.queues in
    let rest = each of_seat (length w.seats) ++ (enters qs ++ fetches asked qs) in
    front P w (start qs) rest (front P w of_function (Event.Raise ∷ directs qs) h)

-- an event that waits
pub first_raise : (asked : ℕ → Bool) (P : Event → Type 0) (w : PlainWorld) → NoneApplies w of_function → P Event.Raise
    → First P w (order_for asked w)
unfolding order_by
first_raise asked P w none h =
    let qs = length w.queues in
    let rest = each of_seat (length w.seats) ++ (enters qs ++ fetches asked qs) in
    front P w (start qs) rest (behind P w of_function (Event.Raise ∷ directs qs) none (inl h))

-- what is ready on a queue
pub first_direct : (asked : ℕ → Bool) (P : Event → Type 0) (w : PlainWorld) (i : ℕ) → NoStart w → NoDirectBelow i w → i < length w.queues
    → P (Event.Direct i) → First P w (order_for asked w)
unfolding order_by
first_direct asked P w i s below lt h =
    let qs = length w.queues in
    let rest = each of_seat (length w.seats) ++ (enters qs ++ fetches asked qs) in
    let here = first_each P w (λ q. Event.Direct q ∷ []) qs i lt (λ j less. (below j less, tt)) (inl h) in
    front P w (start qs) rest
    (behind P w of_function (Event.Raise ∷ directs qs) s.function (inr (s.waiting, here)))

-- an event of a seat
pub first_seat : (asked : ℕ → Bool) (P : Event → Type 0) (w : PlainWorld) (k : ℕ) → NoStart w → NoDirect w → NoSeatBelow k w
    → k < length w.seats → First P w (of_seat k) → First P w (order_for asked w)
unfolding order_by
first_seat asked P w k s d below lt h =
    let qs = length w.queues in
    let seats = each of_seat (length w.seats) in
    let here = first_each P w of_seat (length w.seats) k lt below h in
    behind P w (start qs) (seats ++ (enters qs ++ fetches asked qs)) (none_start w s d)
    (front P w seats (enters qs ++ fetches asked qs) here)

-- a request that arrived
pub first_enter : (asked : ℕ → Bool) (P : Event → Type 0) (w : PlainWorld) (i : ℕ) → NoStart w → NoDirect w → NoSeat w → NoEnterBelow i w
    → i < length w.queues → P (Event.Enter i) → First P w (order_for asked w)
unfolding order_by
first_enter asked P w i s d k below lt h =
    let qs = length w.queues in
    let seats = each of_seat (length w.seats) in
    let here = first_each P w (λ q. Event.Enter q ∷ []) qs i lt (λ j less. (below j less, tt)) (inl h) in
    behind P w (start qs) (seats ++ (enters qs ++ fetches asked qs)) (none_start w s d)
    (behind P w seats (enters qs ++ fetches asked qs) (none_each w of_seat (length w.seats) k)
    (front P w (enters qs) (fetches asked qs) here))

-- what is asked of a queue's next chain
asked_first : (P : Event → Type 0) (w : PlainWorld) (b : Bool) (i : ℕ) → b ≡ true → P (Event.Fetch i)
    → First P w (if b then Event.Fetch i ∷ [] else [])
asked_first P w true i e h = inl h
asked_first P w false i e h = absurd (cc)

asked_none : (w : PlainWorld) (b : Bool) (i : ℕ) → (b ≡ true → Applies w (Event.Fetch i) → ⊥)
    → NoneApplies w (if b then Event.Fetch i ∷ [] else [])
asked_none w true i h = (h refl, tt)
asked_none w false i h = tt

-- a queue's next chain
pub first_fetch : (asked : ℕ → Bool) (P : Event → Type 0) (w : PlainWorld) (i : ℕ) → NoneBeforeFetch w
    → NoFetchBelow asked i w → i < length w.queues → asked i ≡ true → P (Event.Fetch i) → First P w (order_for asked w)
unfolding order_by
first_fetch asked P w i none below lt on h =
    let qs = length w.queues in
    let seats = each of_seat (length w.seats) in
    let here = first_each P w (fetch_of asked) qs i lt (λ j less. asked_none w (asked j) j (below j less))
    (asked_first P w (asked i) i on h) in
    behind P w (start qs) (seats ++ (enters qs ++ fetches asked qs)) (none_start w none.0 none.1)
    (behind P w seats (enters qs ++ fetches asked qs) (none_each w of_seat (length w.seats) none.2)
    (behind P w (enters qs) (fetches asked qs) (none_enters w none.3) here))

-- nothing at all
pub none_left : (asked : ℕ → Bool) (w : PlainWorld) → NoneBeforeFetch w → NoFetch asked w → IsQuietOf asked w
unfolding order_by
none_left asked w none below =
    let qs = length w.queues in
    let seats = each of_seat (length w.seats) in
    let last = none_each w (fetch_of asked) qs (λ j less. asked_none w (asked j) j (below j less)) in
    none_append w (start qs) (seats ++ (enters qs ++ fetches asked qs)) (none_start w none.0 none.1)
    (none_append w seats (enters qs ++ fetches asked qs) (none_each w of_seat (length w.seats) none.2)
    (none_append w (enters qs) (fetches asked qs) (none_enters w none.3) last))

-- Other queues that are asked

-- queues that are asked alike
abbrev pub AskAlike : (ℕ → Bool) → (ℕ → Bool) → ℕ → Type 0
AskAlike asked other n = (q : ℕ) → q < n → asked q ≡ other q

-- have their next chains in the same order
fetches_alike : (asked other : ℕ → Bool) (n : ℕ) → AskAlike asked other n → fetches asked n ≡ fetches other n
fetches_alike asked other zero same = refl
fetches_alike asked other (suc n) same =
    ap (λ xs. xs ++ fetch_of asked n) (fetches_alike asked other n (λ q lt. same q (omega (arith, lt))))
    ∙ ap (λ b. fetches other n ++ (if b then Event.Fetch n ∷ [] else [])) (same n (omega arith))

pub order_alike : (asked other : ℕ → Bool) (queues seats : ℕ) → AskAlike asked other queues
    → order_by asked queues seats ≡ order_by other queues seats
unfolding order_by
order_alike asked other queues seats same =
    ap (λ xs. start queues ++ (each of_seat seats ++ (enters queues ++ xs))) (fetches_alike asked other queues same)
