-- A request that arrived comes to its unit.
use Rattle.std.proofs.Common.{◌≡◌, ◌<◌, ◌≤◌, ◌+◌, ◌*◌, ℕ, Bool, true, false, List, [], ◌∷◌, length, Some, refl, sym, ap, ◌∙◌, subst, inl, inr, arith}
use Rattle.std.specs.Prelude.{slice_get, slice_set, map}
use Rattle.std.proofs.Math.Path.{subst₂}
use Rattle.unit_model.specs.Steps.{Step, next_number}
use Rattle.unit_model.specs.Endings.{Ending}
use Rattle.unit_model.specs.Jobs.{PlainJob, Jobs}
use Rattle.unit_model.specs.Unit.{PlainUnit, after as stepped, parking}
use Rattle.unit_model.specs.Asking.{IsMisdelivered}
use Rattle.device_model.specs.Parts.{Outcome, Slot}
use Rattle.device_model.specs.World.{PlainQueue, Seat, PlainWorld, owner, change}
use Rattle.device_model.specs.Events.{Event}
use Rattle.device_model.specs.Transitions.{Transition}
use Rattle.device_model.specs.Laws.{brings}
use Rattle.device_model.specs.Changing.{slotted, with_jobs}
use Rattle.device_model.specs.Found.{SlotIs, HasSeat}
use Rattle.device_model.specs.Standing.{SlotOwns, front_of}
use Rattle.device_model.specs.Turns.{Turns}
use Rattle.device_model.proofs.Lists.{same, nothing}
use Rattle.device_model.proofs.Joining.{joins}
use Rattle.phases.specs.Slots.{arrived_unit}
use Rattle.phases.specs.DoingUnit.{DoesUnit, with_more}
use Rattle.phases.specs.Units.{Enters, IsEntering, slot_after}
use Rattle.device_steps.specs.Kept.{KeptSeat, seat_of}
use Rattle.device_steps.specs.Inner.Sound.{IsSound}
use Rattle.device_steps.proofs.Setting.{list_of, listing, slot_change, unit_change, unit_still, seat_there, seat_more, seat_still, none_more, has_places}

-- the list keeps its limit
pub limit_stays : (slot : Slot) (u : PlainUnit) (out : Jobs) (b : Bool) (v : PlainUnit) (slot' : Slot) (out' : Jobs)
    → Enters slot u out b v slot' out' → out'.limit ≡ out.limit
limit_stays (Slot.Arrived x) u out true v slot' out' (d, is, does, to, more) = ap (λ (j : Jobs). j.limit) more
limit_stays (Slot.Arrived x) u out false v slot' out' (full, stays) = ap (λ (j : Jobs). j.limit) stays.jobs
limit_stays Slot.Empty u out true v slot' out' e = absurd e
limit_stays Slot.Empty u out false v slot' out' e = ap (λ (j : Jobs). j.limit) e.jobs
limit_stays (Slot.Direct c o) u out true v slot' out' e = absurd e
limit_stays (Slot.Direct c o) u out false v slot' out' e = ap (λ (j : Jobs). j.limit) e.jobs

-- three parts of the device
abbrev parts : PlainWorld → List PlainQueue → List PlainUnit → List Seat → PlainWorld
parts w queues units seats = record w { queues = queues; units = units; seats = seats }

parts_are : (w : PlainWorld) (a a' : List PlainQueue) (b b' : List PlainUnit) (c c' : List Seat) → a ≡ a' → b ≡ b'
    → c ≡ c' → parts w a b c ≡ parts w a' b' c'
parts_are w a a' b b' c c' x y z = ap (λ l. parts w l b c) x ∙ ap (λ l. parts w a' l c) y ∙ ap (λ l. parts w a' b' l) z

-- the device afterwards
abbrev pub entered_in : PlainWorld → List KeptSeat → ℕ → PlainQueue → ℕ → PlainUnit → ℕ → KeptSeat → PlainWorld
entered_in w kept i q p v n t =
    parts w (slice_set w.queues i q) (slice_set w.units p v) (map seat_of (slice_set kept n t))

module _ (w : PlainWorld) (kept : List KeptSeat) (are : w.seats ≡ map seat_of kept) (x : PlainJob) (q : PlainQueue)
    (u : PlainUnit) (s : KeptSeat) (n : ℕ) (n_is : n ≡ owner w.workers x.chain.ticket.queue)
    (q_at : slice_get w.queues x.chain.ticket.queue ≡ Some q) (arrived : q.slot ≡ Slot.Arrived x)
    (u_at : slice_get w.units x.unit ≡ Some u) (s_at : slice_get kept n ≡ Some s)
    (slot : Slot) (v : PlainUnit) (out : Jobs) where
  stands : SlotIs w x.chain.ticket.queue (Slot.Arrived x) × HasSeat w (owner w.workers x.chain.ticket.queue)
  stands = (
    (q, q_at, arrived),
    (seat_of s, ap (λ k. slice_get w.seats k) (sym n_is) ∙ seat_there w.seats kept are n s s_at out),
  )

  -- the three parts afterwards
  queues_to : (to : Slot) → slot ≡ to
      → slice_set w.queues x.chain.ticket.queue (slotted slot q) ≡ change (slotted to) x.chain.ticket.queue w.queues
  queues_to to is = slot_change w.queues x.chain.ticket.queue q slot to q_at is

  seats_more : (xs : List PlainJob) → out ≡ with_more xs (list_of s)
      → map seat_of (slice_set kept n (listing out s))
      ≡ change (with_jobs xs) (owner w.workers x.chain.ticket.queue) w.seats
  seats_more xs is =
      seat_more w.seats kept are n s s_at out xs is ∙ ap (λ k. change (with_jobs xs) k w.seats) n_is

  seats_still : out ≡ with_more [] (list_of s) → map seat_of (slice_set kept n (listing out s)) ≡ w.seats
  seats_still is = seat_still w.seats kept are n s s_at out (none_more out s is)

  abbrev Does : Transition → Type 0
  Does d = DoesUnit d u v

  -- each transition of the job's entering
  entered : (d : Transition) → IsEntering x d → (IsMisdelivered x u → ⊥)
      → Does d → slot ≡ slot_after d → out ≡ with_more (brings d) (list_of s)
      → Turns w (Event.Enter x.chain.ticket.queue) true
      (entered_in w kept x.chain.ticket.queue (slotted slot q) x.unit v n (listing out s))
  entered (Transition.Run y) is fresh does to more =
      let h = subst (λ z. Does (Transition.Run z)) is does in (
        Transition.Run x,
        refl,
        joins (Transition.Run x) w stands (u, u_at, h.asks) tt,
        parts_are w _ _ _ _ _ _ (queues_to Slot.Empty to)
            (unit_change (stepped (Step.Enter x.entry)) w.units x.unit u v u_at h.is)
            (seats_more (x ∷ []) (subst (λ (z : PlainJob). out ≡ with_more (z ∷ []) (list_of s)) is more)),
      )
  entered (Transition.Park y) is fresh does to more =
      let h = subst (λ z. Does (Transition.Park z)) is does in (
        Transition.Park x,
        refl,
        joins (Transition.Park x) w stands (u, u_at, h.asks) tt,
        parts_are w _ _ _ _ _ _ (queues_to Slot.Empty to) (unit_change (parking x) w.units x.unit u v u_at h.is)
            (seats_still more),
      )
  entered (Transition.EnterFull y) is fresh does to more =
      let h = subst (λ z. Does (Transition.EnterFull z)) is does in (
        Transition.EnterFull x,
        refl,
        joins (Transition.EnterFull x) w stands (u, u_at, h.asks) tt,
        parts_are w _ _ _ _ _ _
            (queues_to (Slot.Direct x.chain (Outcome.Ended Ending.Full))
            (subst (λ (z : PlainJob). slot ≡ Slot.Direct z.chain (Outcome.Ended Ending.Full)) is to))
            (unit_change (stepped (Step.Full x.entry.ticket)) w.units x.unit u v u_at h.is) (seats_still more),
      )
  entered (Transition.EnterBusy y) is fresh does to more =
      let h = subst (λ z. Does (Transition.EnterBusy z)) is does in (
        Transition.EnterBusy x,
        refl,
        joins (Transition.EnterBusy x) w stands (u, u_at, h.asks) tt,
        parts_are w _ _ _ _ _ _
            (queues_to (Slot.Direct x.chain (Outcome.Ended Ending.Busy))
            (subst (λ (z : PlainJob). slot ≡ Slot.Direct z.chain (Outcome.Ended Ending.Busy)) is to))
            (unit_still w.units x.unit u v u_at h.is) (seats_still more),
      )
  entered (Transition.EnterStale y) is fresh does to more =
      let h = subst (λ z. Does (Transition.EnterStale z)) is does in
      absurd (fresh h.asks)
  entered d is fresh does to more = absurd is

-- what a request's coming to its unit does is the event's turn
pub enters : (w : PlainWorld) (kept : List KeptSeat) → w.seats ≡ map seat_of kept → IsSound w
    → ((k : ℕ) (z : KeptSeat) → slice_get kept k ≡ Some z → z.limit ≡ 64 * length w.units + 64)
    → (i p n : ℕ) (q : PlainQueue) (u : PlainUnit) (s : KeptSeat) → n ≡ owner w.workers i
    → slice_get w.queues i ≡ Some q → slice_get w.units p ≡ Some u → slice_get kept n ≡ Some s
    → (slot : Slot) (v : PlainUnit) (out : Jobs) (was : Slot) → q.slot ≡ was → arrived_unit was ≡ Some p → (b : Bool)
    → Enters was u (list_of s) b v slot out
    → Turns w (Event.Enter i) b (entered_in w kept i (slotted slot q) p v n (listing out s))
enters w kept are sound limits i p n q u s n_is q_at u_at s_at slot v out Slot.Empty is unit_index b e =
    absurd (nothing unit_index)
enters w kept are sound limits i p n q u s n_is q_at u_at s_at slot v out (Slot.Direct c o) is unit_index b e =
    absurd (nothing unit_index)
enters w kept are sound limits i p n q u s n_is q_at u_at s_at slot v out (Slot.Arrived x) is unit_index false e =
    absurd (e.0 (has_places w kept n s are sound.room limits s_at))
enters w kept are sound limits i p n q u s n_is q_at u_at s_at slot v out (Slot.Arrived x) is unit_index true e =
    let own : SlotOwns w i (Slot.Arrived x) = subst (λ z. SlotOwns w i z) is (sound.owned.slots i q q_at) in
    let behind : next_number i u.steps ≤ x.entry.ticket.number =
    subst (λ z. next_number i u.steps ≤ front_of z (length q.ring.log.accepted)) is
    ((sound.behind i q q_at).floors p u u_at) in
    let fresh : IsMisdelivered x u → ⊥ =
    λ m.
    elim m [
      | inl other ↦ other (sound.named x i q u q_at is (ap (λ k. slice_get w.units k) (same unit_index) ∙ u_at))
      | inr late ↦
          let later : x.entry.ticket.number < next_number i u.steps =
          subst (λ k. x.entry.ticket.number < next_number k u.steps) (ap (λ t. t.queue) own.1.ticket ∙ own.0) late in
          omega (arith, behind, later)
    ] in
    (subst₂
    (λ i p. n ≡ owner w.workers i → slice_get w.queues i ≡ Some q → slice_get w.units p ≡ Some u
    → Turns w (Event.Enter i) true (entered_in w kept i (slotted slot q) p v n (listing out s)))
    own.0 (same unit_index)
    (λ n_at queue_at unit_at.
    entered w kept are x q u s n n_at queue_at is unit_at s_at slot v out e.0 e.1 fresh e.2 e.3 e.4))
    n_is q_at u_at
