-- What is first where any chain may come at any time.
use Rattle.std.proofs.Common.{◌≡◌, ◌⊎◌, inl, inr, ℕ, zero, suc, Bool, true, false, if◌then◌else◌, List, [], ◌∷◌, ◌++◌, length, refl, sym, ap, ◌∙◌, subst}
use Rattle.std.specs.List.{AllByRecursion}
use Rattle.device_model.specs.World.{PlainWorld}
use Rattle.device_model.specs.Events.{Event}
use Rattle.device_model.specs.Order.{each, of_seat, fetch_of, order_by, IsFirstOf, IsNextOf, NoneApplies}
use Rattle.device_model.specs.Live.{with_memory, IsNextLive}
use Rattle.device_steps.proofs.AnyMemory.{IsApart, elsewhere, none_elsewhere}

first_elsewhere : (a b : List ℕ) (w : PlainWorld) (xs : List Event) (e : Event) → AllByRecursion IsApart xs
    → IsFirstOf (with_memory a w) xs e → IsFirstOf (with_memory b w) xs e
first_elsewhere a b w [] e are h = absurd h
first_elsewhere a b w (x ∷ xs) e are (inl h) = inl (elsewhere a b w x are.0 h.0, h.1)
first_elsewhere a b w (x ∷ xs) e are (inr h) =
    inr ((λ k. h.0 (elsewhere b a w x are.0 k)), first_elsewhere a b w xs e are.1 h.1)

-- the first of two lists is the first of the one, or none of that applies and it is the first of the other
either : (w : PlainWorld) (xs ys : List Event) (e : Event) → IsFirstOf w (xs ++ ys) e
    → IsFirstOf w xs e ⊎ (NoneApplies w xs × IsFirstOf w ys e)
either w [] ys e h = inr (tt, h)
either w (x ∷ xs) ys e (inl h) = inl (inl h)
either w (x ∷ xs) ys e (inr h) = elim (either w xs ys e h.1) [
  | inl p ↦ inl (inr (h.0, p))
  | inr p ↦ inr ((h.0, p.0), p.1)
]

all_append : (P : Event → Type 0) (xs ys : List Event) → AllByRecursion P xs → AllByRecursion P ys
    → AllByRecursion P (xs ++ ys)
all_append P [] ys a b = b
all_append P (x ∷ xs) ys a b = (a.0, all_append P xs ys a.1 b)

all_each : (P : Event → Type 0) (f : ℕ → List Event) (n : ℕ) → ((k : ℕ) → AllByRecursion P (f k)) → AllByRecursion P (each f n)
all_each P f zero all = tt
all_each P f (suc n) all = all_append P (each f n) (f n) (all_each P f n all) (all n)

-- the first of the fetches is of a queue that is asked
of_fetch : (asked : Bool) (w : PlainWorld) (i : ℕ) (e : Event) → IsFirstOf w (if asked then Event.Fetch i ∷ [] else []) e
    → (asked ≡ true) × (e ≡ Event.Fetch i)
of_fetch true w i e (inl h) = (refl, sym h.1)
of_fetch true w i e (inr h) = absurd h.1
of_fetch false w i e h = absurd h

of_fetches : (asked : ℕ → Bool) (w : PlainWorld) (n : ℕ) (e : Event) → IsFirstOf w (each (fetch_of asked) n) e
    → (q : ℕ) × (asked q ≡ true) × (e ≡ Event.Fetch q)
of_fetches asked w zero e h = absurd h
of_fetches asked w (suc n) e h = elim (either w (each (fetch_of asked) n) (fetch_of asked n) e h) [
  | inl p ↦ of_fetches asked w n e p
  | inr p ↦ let h = of_fetch (asked n) w n e p.1 in (n, h.0, h.1)
]

-- all of the order but the fetches
abbrev front_of : ℕ → ℕ → List Event
front_of queues seats =
    (Event.AnswerTmf ∷ Event.Check ∷ Event.Mark ∷ Event.Raise ∷ each (λ q. Event.Direct q ∷ []) queues)
    ++ (each of_seat seats ++ each (λ q. Event.Enter q ∷ []) queues)

apart_front : (queues seats : ℕ) → AllByRecursion IsApart (front_of queues seats)
apart_front queues seats =
    all_append IsApart (Event.AnswerTmf ∷ Event.Check ∷ Event.Mark ∷ Event.Raise ∷ each (λ q. Event.Direct q ∷ []) queues)
    (each of_seat seats ++ each (λ q. Event.Enter q ∷ []) queues)
    (tt, (tt, (tt, (tt, all_each IsApart (λ q. Event.Direct q ∷ []) queues (λ k. (tt, tt))))))
    (all_append IsApart (each of_seat seats) (each (λ q. Event.Enter q ∷ []) queues)
    (all_each IsApart of_seat seats (λ k. (tt, (tt, (tt, (tt, (tt, (tt, tt))))))))
    (all_each IsApart (λ q. Event.Enter q ∷ []) queues (λ k. (tt, tt))))

append_again : (xs ys zs : List Event) → xs ++ (ys ++ zs) ≡ (xs ++ ys) ++ zs
append_again [] ys zs = refl
append_again (x ∷ xs) ys zs = ap (λ l. x ∷ l) (append_again xs ys zs)

order_split : (asked : ℕ → Bool) (queues seats : ℕ)
    → order_by asked queues seats ≡ front_of queues seats ++ each (fetch_of asked) queues
unfolding order_by
order_split asked queues seats =
    let start = Event.AnswerTmf ∷ Event.Check ∷ Event.Mark ∷ Event.Raise ∷ each (λ q. Event.Direct q ∷ []) queues in
    let enters = each (λ q. Event.Enter q ∷ []) queues in
    ap (λ l. start ++ l) (append_again (each of_seat seats) enters (each (fetch_of asked) queues))
    ∙ append_again start (each of_seat seats ++ enters) (each (fetch_of asked) queues)

no_fetches : (n : ℕ) → each (fetch_of (λ q. false)) n ≡ []
no_fetches zero = refl
no_fetches (suc n) = ap (λ l. l ++ []) (no_fetches n)

append_none : (xs : List Event) → xs ++ [] ≡ xs
append_none [] = refl
append_none (x ∷ xs) = ap (λ l. x ∷ l) (append_none xs)

-- where no queue is asked, the order ends before the fetches
order_front : (queues seats : ℕ) → order_by (λ q. false) queues seats ≡ front_of queues seats
order_front queues seats =
    order_split (λ q. false) queues seats ∙ ap (λ l. front_of queues seats ++ l) (no_fetches queues)
    ∙ append_none (front_of queues seats)

-- what is first with some bytes is next, whatever stands in memory
pub next_live : (asked : ℕ → Bool) (a : List ℕ) (w : PlainWorld) (e : Event) → IsNextOf asked (with_memory a w) e
    → IsNextLive asked w e
next_live asked a w e h =
    let queues = length w.queues in
    let seats = length w.seats in
    let v = with_memory a w in
    let apart = apart_front queues seats in
    let split : IsFirstOf v (front_of queues seats ++ each (fetch_of asked) queues) e =
    subst (λ l. IsFirstOf v l e) (order_split asked queues seats) h in
    elim (either v (front_of queues seats) (each (fetch_of asked) queues) e split) [
      | inl p ↦ inl (subst (λ l. IsFirstOf w l e) (sym (order_front queues seats))
          (first_elsewhere a w.memory w (front_of queues seats) e apart p))
      | inr p ↦ inr (
        subst (λ l. NoneApplies w l) (sym (order_front queues seats))
            (none_elsewhere a w.memory w (front_of queues seats) apart p.0),
        of_fetches asked v queues e p.1,
      )
    ]
