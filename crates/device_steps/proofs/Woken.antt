-- What a transition wakes, by its event alone; and so where to look next.
use Rattle.std.proofs.Common.{◌≡◌, inl, inr, ℕ, ◌<◌, Bool, true, List, [], ◌∷◌, length, None, is_some, refl, sym, subst, ap, ◌∙◌, arith}
use Rattle.std.specs.Prelude.{◌≤◌, ⊤}
use Rattle.std.specs.List.{AllByRecursion}
use Rattle.ring_core.specs.State.{PlainChain}
use Rattle.unit_model.specs.Jobs.{PlainJob}
use Rattle.device_model.specs.Parts.{Slot, Outcome}
use Rattle.device_model.specs.World.{PlainQueue, PlainWorld, owner}
use Rattle.device_model.specs.Events.{Event}
use Rattle.device_model.specs.Transitions.{Transition, event_of, queue_fetched, queue_of_job}
use Rattle.device_model.specs.After.{after}
use Rattle.device_model.specs.Happens.{Happens, MayWant}
use Rattle.device_model.specs.Applies.{Applies}
use Rattle.device_model.specs.Found.{SlotIs}
use Rattle.device_model.specs.Lawful.{KeepsParts}
use Rattle.device_model.proofs.Applying.{applies}
use Rattle.device_model.proofs.Lists.{same}
use Rattle.device_model.proofs.Staying.{transition_stays}
use Rattle.device_model.specs.Order.{of_seat, IsFirstOf, IsNextOf, NoneApplies}
use Rattle.device_model.specs.Waking.{IsAmong, IsFetch, IsTake, IsOwn, Wakes}
use Rattle.phases.specs.Slots.{arrived_unit}
use Rattle.device_model.proofs.Waking.{wakes}
use Rattle.device_steps.specs.Inner.Cursors.{TurnsBy, TurnsFirst, of_function, NoStart, NoDirectBelow, NoDirect, NoSeatBelow, NoSeat, NoEnterBelow, NoFetchBelow, NoneBefore, NoneBeforeFetch, LeavesNext, EntersNext, FetchesNext, StepsNext, direct_from, seat_from, enter_from}
use Rattle.device_steps.specs.Settling.{order_for, MayWantFirst}
use Rattle.device_steps.specs.declared.cursor.Cursor.{Cursor}
use Rattle.device_steps.specs.declared.cursor.Cursor.TheVariants as cursor
use Rattle.device_steps.proofs.Choosing.{none_open}
use Rattle.device_steps.proofs.Ordering.{Is, is_first, of_first, wants_first, Wants, first_function, first_raise, first_direct, first_seat, first_enter, first_fetch}

abbrev Never : PlainWorld → Event → Type 0
Never w e = Applies w e → ⊥

-- after an event of a seat: what stands behind the seats, and a mark that is clear now
abbrev AfterSeat : Event → Type 0
AfterSeat (Event.Fetch i) = ⊤
AfterSeat (Event.Put k) = ⊤
AfterSeat (Event.Take k) = ⊤
AfterSeat (Event.Commit k) = ⊤
AfterSeat (Event.Answer k) = ⊤
AfterSeat (Event.Leave k) = ⊤
AfterSeat Event.Check = ⊤
AfterSeat (Event.Resume k) = ⊤
AfterSeat e = ⊥

-- after a request came to its unit: its own queue's answer, or a job that a seat is to hand off
abbrev AfterEnter : ℕ → Event → Type 0
AfterEnter i (Event.Fetch j) = ⊤
AfterEnter i (Event.Put k) = ⊤
AfterEnter i (Event.Direct j) = j ≡ i
AfterEnter i e = ⊥

-- after a queue took a chain: its own request or answer, or a function
abbrev AfterFetch : ℕ → Event → Type 0
AfterFetch i (Event.Fetch j) = ⊤
AfterFetch i (Event.Enter j) = j ≡ i
AfterFetch i (Event.Direct j) = j ≡ i
AfterFetch i Event.Mark = ⊤
AfterFetch i Event.AnswerTmf = ⊤
AfterFetch i e = ⊥

-- what may apply after a transition of the first event that didn't before
abbrev WokenBy : Event → Event → Type 0
WokenBy (Event.Direct i) e = IsFetch e
WokenBy (Event.Put k) e = AfterSeat e
WokenBy (Event.Take k) e = AfterSeat e
WokenBy (Event.Commit k) e = AfterSeat e
WokenBy (Event.Answer k) e = AfterSeat e
WokenBy (Event.Leave k) e = AfterSeat e
WokenBy (Event.Resume k) e = AfterSeat e
WokenBy (Event.Enter i) e = AfterEnter i e
WokenBy (Event.Fetch i) e = AfterFetch i e
WokenBy x e = ⊤

among : (P : Event → Type 0) (xs : List Event) (e : Event) → AllByRecursion P xs → IsAmong xs e → P e
among P [] e all h = absurd h
among P (x ∷ xs) e all (inl p) = subst P (sym p) all.0
among P (x ∷ xs) e all (inr h) = among P xs e all.1 h

fetch_after_seat : (e : Event) → IsFetch e → AfterSeat e
fetch_after_seat (Event.Fetch i) h = tt
fetch_after_seat e h = absurd h

take_after_seat : (e : Event) → IsTake e → AfterSeat e
take_after_seat (Event.Take k) h = tt
take_after_seat e h = absurd h

fetch_after_fetch : (i : ℕ) (e : Event) → IsFetch e → AfterFetch i e
fetch_after_fetch i (Event.Fetch j) h = tt
fetch_after_fetch i e h = absurd h

woken : (w : PlainWorld) (d : Transition) (e : Event) → Happens d w → Wakes w d e → WokenBy (event_of d) e
woken w (Transition.Arrive f x) e m h =
    among (AfterFetch (queue_fetched f)) (Event.Enter (queue_fetched f) ∷ []) e (refl, tt) h
woken w (Transition.Refuse f a) e m h =
    among (AfterFetch (queue_fetched f)) (Event.Direct (queue_fetched f) ∷ []) e (refl, tt) h
woken w (Transition.Open f g) e m h =
    among (AfterFetch (queue_fetched f)) (Event.Mark ∷ Event.AnswerTmf ∷ []) e (tt, (tt, tt)) h
woken w (Transition.Hold f) e m h = absurd h
woken w (Transition.UseBuffer f xs) e m h = fetch_after_fetch (queue_fetched f) e h
woken w (Transition.Break q n) e m h = absurd h
woken w (Transition.Run x) e m h =
    let i = queue_of_job x in
    among (AfterEnter i) (Event.Fetch i ∷ Event.Put (owner w.workers i) ∷ []) e (tt, (tt, tt)) h
woken w (Transition.Park x) e m h =
    among (AfterEnter (queue_of_job x)) (Event.Fetch (queue_of_job x) ∷ []) e (tt, tt) h
woken w (Transition.EnterFull x) e m h =
    among (AfterEnter (queue_of_job x)) (Event.Direct (queue_of_job x) ∷ []) e (refl, tt) h
woken w (Transition.EnterBusy x) e m h =
    among (AfterEnter (queue_of_job x)) (Event.Direct (queue_of_job x) ∷ []) e (refl, tt) h
woken w (Transition.EnterStale x) e m h = absurd m
woken w (Transition.Direct c o xs) e m h = h
woken w (Transition.Put k x) e m h = take_after_seat e h
woken w (Transition.Keep k x) e m h = among AfterSeat (Event.Commit k ∷ []) e (tt, tt) h
woken w (Transition.Take k from x) e m h = among AfterSeat (Event.Commit k ∷ []) e (tt, tt) h
woken w (Transition.Commit k x r) e m h = among AfterSeat (Event.Answer k ∷ []) e (tt, tt) h
woken w (Transition.CommitBusy k x) e m h = among AfterSeat (Event.Answer k ∷ []) e (tt, tt) h
woken w (Transition.CommitAborted k x why) e m h = among AfterSeat (Event.Answer k ∷ []) e (tt, tt) h
woken w (Transition.CommitUnknown k x) e m h = absurd m
woken w (Transition.Defer k x) e m h =
    among AfterSeat (Event.Put k ∷ Event.Take k ∷ Event.Resume k ∷ []) e (tt, (tt, (tt, tt))) h
woken w (Transition.Withhold k x r) e m h =
    among AfterSeat (Event.Put k ∷ Event.Take k ∷ Event.Resume k ∷ []) e (tt, (tt, (tt, tt))) h
woken w (Transition.Conclude k x r) e m h = among AfterSeat (Event.Answer k ∷ []) e (tt, tt) h
woken w (Transition.Resume k x) e m h = among AfterSeat (Event.Commit k ∷ []) e (tt, tt) h
woken w (Transition.Answer k x o xs) e m (inl h) = fetch_after_seat e h
woken w (Transition.Answer k x o xs) e m (inr h) = among AfterSeat (Event.Leave k ∷ []) e (tt, tt) h
woken w (Transition.Leave k unit_index t jobs) e m h =
    among AfterSeat (Event.Put k ∷ Event.Take k ∷ Event.Resume k ∷ Event.Check ∷ []) e (tt, (tt, (tt, (tt, tt)))) h
woken w (Transition.Idle x) e m h = absurd m
woken w d e m h = tt

-- what didn't apply doesn't after a transition, if it doesn't where the transition woke it
still : (w : PlainWorld) (d : Transition) (x e : Event) → event_of d ≡ x → Happens d w → IsOwn e
    → (WokenBy x e → Never (after d w) e) → Never w e → Never (after d w) e
still w d x e is m own f never a =
    f (subst (λ y. WokenBy y e) is (woken w d e m (wakes w d e own m a never))) a

-- there are as many queues as before
as_many : (w : PlainWorld) (d : Transition) (i : ℕ) → i < length (after d w).queues → i < length w.queues
as_many w d i lt = let k : KeepsParts w (after d w) = transition_stays d w in omega (arith, lt, k.queues)

as_many_seats : (w : PlainWorld) (d : Transition) (i : ℕ) → i < length (after d w).seats → i < length w.seats
as_many_seats w d i lt = let k : KeepsParts w (after d w) = transition_stays d w in omega (arith, lt, k.seats)

-- Where to look next

-- after an answer of a queue: from there on
after_direct : (w : PlainWorld) (d : Transition) (i : ℕ) → event_of d ≡ Event.Direct i → Happens d w → NoStart w
    → NoDirectBelow i w → NoneBefore (cursor.Direct i) (after d w)
after_direct w d i is m s below =
    let x = Event.Direct i in (
      record {
        function = (
          still w d x Event.AnswerTmf is m tt (λ h. absurd h) s.function.0,
          (
            still w d x Event.Check is m tt (λ h. absurd h) s.function.1.0,
            (still w d x Event.Mark is m tt (λ h. absurd h) s.function.1.1.0, tt),
          ),
        );
        waiting = still w d x Event.Raise is m tt (λ h. absurd h) s.waiting;
      },
      λ j lt. still w d x (Event.Direct j) is m tt (λ h. absurd h) (below j lt),
    )

-- it is one of these events
first_all : (P : Event → Type 0) (w : PlainWorld) (xs : List Event) (e : Event) → AllByRecursion P xs
    → IsFirstOf w xs e → P e
first_all P w [] e all h = absurd h
first_all P w (x ∷ xs) e all (inl h) = subst P h.1 all.0
first_all P w (x ∷ xs) e all (inr h) = first_all P w xs e all.1 h.1

abbrev WakesAfterSeat : Event → Event → Type 0
WakesAfterSeat e x = WokenBy x e → AfterSeat e

wakes_after_seat : (w : PlainWorld) (k : ℕ) (x e : Event) → IsFirstOf w (of_seat k) x → WakesAfterSeat e x
wakes_after_seat w k x e h =
    first_all (WakesAfterSeat e) w (of_seat k) x (λ h. h, (λ h. h, (λ h. h, (λ h. h, (λ h. h, (λ h. h, tt)))))) h

-- after an event of a seat, where no function is open: from the seats on
after_seat : (w : PlainWorld) (d : Transition) (k : ℕ) → IsFirstOf w (of_seat k) (event_of d) → Happens d w → NoStart w
    → NoDirect w → (after d w).function ≡ None → NoneBefore cursor.Seats (after d w)
after_seat w d k first m s direct closed =
    let x = event_of d in (
      record {
        function = none_open (after d w) closed;
        waiting = still w d x Event.Raise refl m tt
            (λ h. absurd (wakes_after_seat w k x Event.Raise first h)) s.waiting;
      },
      λ j lt. still w d x (Event.Direct j) refl m tt
          (λ h. absurd (wakes_after_seat w k x (Event.Direct j) first h)) (direct j (as_many w d j lt)),
    )

empty_direct : (c : PlainChain) (o : Outcome) → Slot.Empty ≡ Slot.Direct c o → ⊥
empty_direct c o e = cc

arrived_direct : (x : PlainJob) (c : PlainChain) (o : Outcome) → Slot.Arrived x ≡ Slot.Direct c o → ⊥
arrived_direct x c o e = cc

-- the slot of a queue is one
one_slot : (w : PlainWorld) (i : ℕ) (s t : Slot) → SlotIs w i s → SlotIs w i t → s ≡ t
one_slot w i s t a b = sym a.2 ∙ ap (λ (q : PlainQueue). q.slot) (same (sym a.1 ∙ b.1)) ∙ b.2

-- where a slot has nothing that is ready, nothing is answered
never_direct : (w : PlainWorld) (i j : ℕ) (s : Slot) → ((c : PlainChain) (o : Outcome) → s ≡ Slot.Direct c o → ⊥)
    → SlotIs w i s → j ≡ i → Never w (Event.Direct j)
never_direct w i j s other at is a =
    let here : Applies w (Event.Direct i) = subst (λ k. Applies w (Event.Direct k)) is a in
    other here.0 here.1 (one_slot w i s (Slot.Direct here.0 here.1) at here.2)

-- after a request came to its unit, where its slot is empty: from the seats on
after_enter : (w : PlainWorld) (d : Transition) (i : ℕ) → event_of d ≡ Event.Enter i → Happens d w → NoStart w → NoDirect w
    → SlotIs (after d w) i Slot.Empty → NoneBefore cursor.Seats (after d w)
after_enter w d i is m s direct empty =
    let x = Event.Enter i in (
      record {
        function = (
          still w d x Event.AnswerTmf is m tt (λ h. absurd h) s.function.0,
          (
            still w d x Event.Check is m tt (λ h. absurd h) s.function.1.0,
            (still w d x Event.Mark is m tt (λ h. absurd h) s.function.1.1.0, tt),
          ),
        );
        waiting = still w d x Event.Raise is m tt (λ h. absurd h) s.waiting;
      },
      λ j lt. still w d x (Event.Direct j) is m tt (never_direct (after d w) i j Slot.Empty empty_direct empty)
          (direct j (as_many w d j lt)),
    )

-- a number below another isn't that
not_below : (i j : ℕ) → j < i → j ≡ i → ⊥
not_below i j lt e = omega (arith, lt, e)

-- after a queue took a chain, where a request arrived there and no function is open: from there on
after_fetch : (w : PlainWorld) (d : Transition) (i : ℕ) (y : PlainJob) → event_of d ≡ Event.Fetch i → Happens d w
    → NoneBeforeFetch w → i < length w.queues → (after d w).function ≡ None
    → SlotIs (after d w) i (Slot.Arrived y) → NoneBefore (cursor.Enter i) (after d w)
after_fetch w d i y is m none lt closed arrived =
    let x = Event.Fetch i in
    let seat : NoSeatBelow (length (after d w).seats) w = λ k less. none.2 k (as_many_seats w d k less) in (
      record {
        function = none_open (after d w) closed;
        waiting = still w d x Event.Raise is m tt (λ h. absurd h) none.0.waiting;
      },
      λ j less. still w d x (Event.Direct j) is m tt
          (never_direct (after d w) i j (Slot.Arrived y) (arrived_direct y) arrived) (none.1 j (as_many w d j less)),
      λ k less. (
        still w d x (Event.Leave k) is m tt (λ h. absurd h) (seat k less).0,
        (
          still w d x (Event.Answer k) is m tt (λ h. absurd h) (seat k less).1.0,
          (
            still w d x (Event.Commit k) is m tt (λ h. absurd h) (seat k less).1.1.0,
            (
              still w d x (Event.Put k) is m tt (λ h. absurd h) (seat k less).1.1.1.0,
              (
                still w d x (Event.Resume k) is m tt (λ h. absurd h) (seat k less).1.1.1.1.0,
                (still w d x (Event.Take k) is m tt (λ h. absurd h) (seat k less).1.1.1.1.1.0, tt),
              ),
            ),
          ),
        ),
      ),
      λ j less. still w d x (Event.Enter j) is m tt (λ h. absurd (not_below i j less h))
          (none.3 j (omega (arith, less, lt))),
    )

-- What is first was done, and where to look next

-- an event of the function
pub function_next : (asked : ℕ → Bool) (Q : Transition → Type 0) (w w' : PlainWorld) → TurnsFirst Q of_function w w'
    → StepsNext asked Q w cursor.Start w'
function_next asked Q w w' u =
    let e = event_of u.0 in
    (u.0, u.1, is_first w e (order_for asked w) (first_function asked (Is w e) w (of_first w e of_function u.2)), u.3, tt, u.4)

-- what changed something applied, and is first where it is so by its name
next_by : (asked : ℕ → Bool) (w : PlainWorld) (d : Transition) (e : Event) → event_of d ≡ e → Happens d w
    → (Is w e e → IsNextOf asked w e) → IsNextOf asked w (event_of d)
next_by asked w d e is m f =
    subst (λ x. IsNextOf asked w x) (sym is) (f (subst (λ x. Applies w x) is (applies d w m), refl))

-- the oldest event that waits
pub raise_next : (asked : ℕ → Bool) (Q : Transition → Type 0) (w w' : PlainWorld) → NoneApplies w of_function
    → TurnsBy Q w Event.Raise w' → StepsNext asked Q w cursor.Start w'
raise_next asked Q w w' none u =
    let next = next_by asked w u.0 Event.Raise u.1 u.2
    (λ a. is_first w Event.Raise (order_for asked w) (first_raise asked (Is w Event.Raise) w none a)) in
    (u.0, u.2, next, u.3, tt, u.4)

-- the answer that is ready on a queue
pub direct_next : (asked : ℕ → Bool) (Q : Transition → Type 0) (w w' : PlainWorld) (i : ℕ) → NoStart w → NoDirectBelow i w
    → i < length w.queues → TurnsBy Q w (Event.Direct i) w' → StepsNext asked Q w (cursor.Direct i) w'
direct_next asked Q w w' i s below lt u =
    let e = Event.Direct i in
    let next = next_by asked w u.0 e u.1 u.2
    (λ a. is_first w e (order_for asked w) (first_direct asked (Is w e) w i s below lt a)) in
    (u.0, u.2, next, u.3, subst (NoneBefore (cursor.Direct i)) (sym u.3) (after_direct w u.0 i u.1 u.2 s below), u.4)

-- where the cursor is the beginning, nothing is asked
at_start : (w : PlainWorld) (c : Cursor) → c ≡ cursor.Start → NoneBefore c w
at_start w c e = subst (λ z. NoneBefore z w) (sym e) tt

at_other : (w v : PlainWorld) (c x : Cursor) → c ≡ x → v ≡ w → NoneBefore x w → NoneBefore c v
at_other w v c x e f h = subst (λ z. NoneBefore z v) (sym e) (subst (λ z. NoneBefore x z) (sym f) h)

-- an event of a seat
pub seat_next : (asked : ℕ → Bool) (Q : Transition → Type 0) (w w' : PlainWorld) (k : ℕ) (c : Cursor) → NoStart w → NoDirect w
    → NoSeatBelow k w → k < length w.seats → TurnsFirst Q (of_seat k) w w' → LeavesNext w' c → StepsNext asked Q w c w'
seat_next asked Q w w' k c s direct below lt u leaves =
    let e = event_of u.0 in
    let next = is_first w e (order_for asked w)
    (first_seat asked (Is w e) w k s direct below lt (of_first w e (of_seat k) u.2)) in
    let before : NoneBefore c w' = elim leaves [
      | inl p ↦ at_start w' c p
      | inr p ↦
          let closed = ap (λ (z : PlainWorld). z.function) (sym u.3) ∙ p.1 in
          at_other (after u.0 w) w' c cursor.Seats p.0 u.3 (after_seat w u.0 k u.2 u.1 s direct closed)
    ] in
    (u.0, u.1, next, u.3, before, u.4)

-- a request that arrived
pub enter_next : (asked : ℕ → Bool) (Q : Transition → Type 0) (w w' : PlainWorld) (i : ℕ) (c : Cursor) → NoStart w → NoDirect w
    → NoSeat w → NoEnterBelow i w → i < length w.queues → TurnsBy Q w (Event.Enter i) w' → EntersNext i w' c
    → StepsNext asked Q w c w'
enter_next asked Q w w' i c s direct seat below lt u enters =
    let e = Event.Enter i in
    let next = next_by asked w u.0 e u.1 u.2
    (λ a. is_first w e (order_for asked w) (first_enter asked (Is w e) w i s direct seat below lt a)) in
    let before : NoneBefore c w' = elim enters [
      | inl p ↦ at_start w' c p
      | inr p ↦
          let empty = subst (λ z. SlotIs z i Slot.Empty) u.3 p.1 in
          at_other (after u.0 w) w' c cursor.Seats p.0 u.3 (after_enter w u.0 i u.1 u.2 s direct empty)
    ] in
    (u.0, u.2, next, u.3, before, u.4)

-- a queue's next chain
pub fetch_next : (asked : ℕ → Bool) (Q : Transition → Type 0) (w w' : PlainWorld) (i : ℕ) (c : Cursor) → NoneBeforeFetch w
    → NoFetchBelow asked i w → i < length w.queues → asked i ≡ true → TurnsBy Q w (Event.Fetch i) w' → FetchesNext i w' c
    → StepsNext asked Q w c w'
fetch_next asked Q w w' i c none below lt is_asked u fetches =
    let e = Event.Fetch i in
    let next = next_by asked w u.0 e u.1 u.2
    (λ a. is_first w e (order_for asked w) (first_fetch asked (Is w e) w i none below lt is_asked a)) in
    let before : NoneBefore c w' = elim fetches [
      | inl p ↦ at_start w' c p
      | inr p ↦
          let closed = ap (λ (z : PlainWorld). z.function) (sym u.3) ∙ p.1 in
          let arrived = subst (λ z. SlotIs z i (Slot.Arrived p.2.0)) u.3 p.2.1 in
          at_other (after u.0 w) w' c (cursor.Enter i) p.0 u.3
          (after_fetch w u.0 i p.2.0 u.1 u.2 none lt closed arrived)
    ] in
    (u.0, u.2, next, u.3, before, u.4)

-- memory was refused for a queue's next chain
pub queue_wants : (asked : ℕ → Bool) (w : PlainWorld) (i : ℕ) → NoneBeforeFetch w → NoFetchBelow asked i w → i < length w.queues
    → (asked i ≡ true) × MayWant (Event.Fetch i) w → MayWantFirst w (order_for asked w)
queue_wants asked w i none below lt t =
    wants_first w (order_for asked w) (first_fetch asked (Wants w) w i none below lt t.0 t.1)

-- a slot with a unit has a request that arrived
pub arrived_there : (s : Slot) → is_some (arrived_unit s) ≡ true → (x : PlainJob) × (s ≡ Slot.Arrived x)
arrived_there Slot.Empty e = absurd (cc)
arrived_there (Slot.Arrived x) e = (x, refl)
arrived_there (Slot.Direct c o) e = absurd (cc)

-- Where a cursor begins

-- it isn't at the beginning
pub past_start : (w : PlainWorld) (c : Cursor) → (c ≡ cursor.Start → ⊥) → NoneBefore c w → NoStart w
past_start w cursor.Start other before = absurd (other refl)
past_start w (cursor.Direct n) other before = before.0
past_start w cursor.Seats other before = before.0
past_start w (cursor.Enter n) other before = before.0
past_start w (cursor.Fetch n) other before = before.0

-- nothing is below 0
none_below : (P : ℕ → Type 0) (i : ℕ) → i < 0 → P i
none_below P i lt = absurd (omega (arith, lt))

pub directs_from : (w : PlainWorld) (c : Cursor) → NoneBefore c w → NoDirectBelow (direct_from c (length w.queues)) w
directs_from w cursor.Start before = none_below (λ i. Never w (Event.Direct i))
directs_from w (cursor.Direct n) before = before.1
directs_from w cursor.Seats before = before.1
directs_from w (cursor.Enter n) before = before.1
directs_from w (cursor.Fetch n) before = before.1

pub seats_from : (w : PlainWorld) (c : Cursor) → NoneBefore c w → NoSeatBelow (seat_from c (length w.seats)) w
seats_from w cursor.Start before = none_below (λ k. NoneApplies w (of_seat k))
seats_from w (cursor.Direct n) before = none_below (λ k. NoneApplies w (of_seat k))
seats_from w cursor.Seats before = none_below (λ k. NoneApplies w (of_seat k))
seats_from w (cursor.Enter n) before = before.2
seats_from w (cursor.Fetch n) before = before.2

pub enters_from : (w : PlainWorld) (c : Cursor) → NoneBefore c w → NoEnterBelow (enter_from c (length w.queues)) w
enters_from w cursor.Start before = none_below (λ i. Never w (Event.Enter i))
enters_from w (cursor.Direct n) before = none_below (λ i. Never w (Event.Enter i))
enters_from w cursor.Seats before = none_below (λ i. Never w (Event.Enter i))
enters_from w (cursor.Enter n) before = before.3
enters_from w (cursor.Fetch n) before = before.3

-- Past the last of a kind

-- no queue has an answer ready
pub directs_past : (w : PlainWorld) (n : ℕ) → length w.queues ≤ n → NoDirectBelow n w → NoDirect w
directs_past w n le below = λ i lt. below i (omega (arith, lt, le))

-- no seat has an event
pub seats_past : (w : PlainWorld) (n : ℕ) → length w.seats ≤ n → NoSeatBelow n w → NoSeat w
seats_past w n le below = λ k lt. below k (omega (arith, lt, le))

-- no request arrived
pub enters_past : (w : PlainWorld) (n : ℕ) → length w.queues ≤ n → NoStart w → NoDirect w → NoSeat w → NoEnterBelow n w
    → NoneBeforeFetch w
enters_past w n le s direct seat below = (s, direct, seat, λ i lt. below i (omega (arith, lt, le)))
