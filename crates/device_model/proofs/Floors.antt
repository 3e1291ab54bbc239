-- Tickets enter histories in the order in which they were fetched.
use Rattle.std.proofs.Common.{◌≡◌, ℕ, ◌+◌, ◌<◌, ◌≤◌, Bool, true, false, eqb, cond, List, [], ◌∷◌, ◌++◌, length, Some, refl, sym, ◌∙◌, ap, subst, inl, inr, zero, suc, arith}
use Rattle.std.specs.Prelude.{slice_get}
use Rattle.std.proofs.lemmas.List.{length-append}
use Rattle.ring_core.specs.State.{PlainChain, next_ticket}
use Rattle.ring_core.specs.declared.log.Ticket.{Ticket}
use Rattle.unit_model.specs.Endings.{Ending}
use Rattle.unit_model.specs.Steps.{Step, next_number}
use Rattle.unit_model.specs.Jobs.{PlainJob}
use Rattle.unit_model.specs.Unit.{PlainUnit, after as stepped, parking, dealing}
use Rattle.task_mgmt.specs.Functions.{step_by}
use Rattle.task_mgmt.specs.declared.kind.MarkBy.{MarkBy}
use Rattle.task_mgmt.specs.declared.kind.MarkBy.TheVariants.{Abort, Reset}
use Rattle.device_model.specs.Parts.{PlainFetch, Outcome, Slot, lengths_of, request_of}
use Rattle.device_model.specs.World.{PlainQueue, PlainWorld, Opens, change, Everywhere}
use Rattle.device_model.specs.Transitions.{Transition}
use Rattle.device_model.specs.Event.Hard.{hard_code}
use Rattle.device_model.specs.Changing.{arriving, taking, slotted, broken_by, completing, directing, spending}
use Rattle.device_model.specs.After.{after}
use Rattle.device_model.specs.Happens.{MayHappen}
use Rattle.device_model.specs.Event.Fetch.{Finds}
use Rattle.device_model.specs.Event.Enter.{Comes}
use Rattle.device_model.specs.Standing.{front_of, AreBehind, SlotIsLatest}
use Rattle.device_model.proofs.Lists.{same, at_other}
use Rattle.device_model.proofs.Deciding.{decided_there}

-- one item is changed: it does then, and so do the others, which have other numbers
everywhere_else : {X : Type 0} (P Q : ℕ → X → Type 0) (g : X → X) (k : ℕ) (xs : List X) → Everywhere P xs
    → ((i : ℕ) (x : X) → eqb k i ≡ false → P i x → Q i x)
    → ((x : X) → slice_get xs k ≡ Some x → P k x → Q k (g x)) → Everywhere Q (change g k xs)
everywhere_else P Q g k xs h others one i y at =
    let o = at_other g k xs i y at in
    elim o.2 [
      | inl p ↦
          let there = ap (λ j. slice_get xs j) (sym p.0) ∙ o.1 in
          let here = subst (λ j. P j o.0) p.0 (h i o.0 o.1) in
          subst (λ z. Q i z) (sym p.1) (subst (λ j. Q j (g o.0)) (sym p.0) (one o.0 there here))
      | inr p ↦ subst (λ z. Q i z) (sym p.1) (others i o.0 p.0 (h i o.0 o.1))
    ]

-- a request that arrived is the latest of so many, is under its chain's ticket, and goes to one of so many units
pub record IsNext (units accepted : ℕ) (x : PlainJob) : Type 0 where
  pub number : x.entry.ticket.number + 1 ≡ accepted
  pub ticket : x.entry.ticket ≡ x.chain.ticket
  pub unit : x.unit < units

-- no history has a ticket of the queue from this number on
abbrev Below : ℕ → ℕ → List PlainUnit → Type 0
Below i n us = Everywhere (λ k u. next_number i u.steps ≤ n) us

-- how many chains the queue accepted
abbrev accepted_of : PlainQueue → ℕ
accepted_of q = length q.ring.log.accepted

-- the tickets of the queue below this one may stand in histories
abbrev front : PlainQueue → ℕ
front q = front_of q.slot (accepted_of q)

-- a queue stands so to these units
pub record IsOrdered (units : ℕ) (us : List PlainUnit) (i : ℕ) (q : PlainQueue) : Type 0 where
  pub arrived : (x : PlainJob) → q.slot ≡ Slot.Arrived x → IsNext units (accepted_of q) x
  pub floors : Below i (front q) us

-- all queues do
abbrev Ordered : ℕ → List PlainUnit → List PlainQueue → Type 0
Ordered n us qs = Everywhere (IsOrdered n us) qs

-- and they do in the device
abbrev pub AreOrdered : PlainWorld → Type 0
AreOrdered w = Ordered (length w.inventory.addresses) w.units w.queues

-- Slots

-- a chain that is to be answered is no request
not_arrived : {c : PlainChain} {o : Outcome} {x : PlainJob} → Slot.Direct c o ≡ Slot.Arrived x → ⊥
not_arrived e = cc

-- nothing is no request
not_empty : {x : PlainJob} → Slot.Empty ≡ Slot.Arrived x → ⊥
not_empty e = cc

-- one request is in a slot
arrived_is : {x y : PlainJob} → Slot.Arrived x ≡ Slot.Arrived y → x ≡ y
arrived_is e = cc

-- Histories go on

-- one history goes on, and none has a ticket from that number on
below_after : (g : PlainUnit → PlainUnit) (k i n m : ℕ) (us : List PlainUnit) → n ≤ m
    → ((u : PlainUnit) → next_number i u.steps ≤ n → next_number i (g u).steps ≤ m) → Below i n us → Below i m (change g k us)
below_after g k i n m us le f b =
    everywhere_else (λ j u. next_number i u.steps ≤ n) (λ j u. next_number i u.steps ≤ m) g k us b
    (λ j u e p. omega (arith, p, le)) (λ u at p. f u p)

-- a step that raises no next number, where no queue is changed
units_on : (n : ℕ) (s : Step) (k : ℕ) (us : List PlainUnit) (qs : List PlainQueue)
    → ((i : ℕ) (h : List Step) → next_number i (s ∷ h) ≡ next_number i h) → Ordered n us qs
    → Ordered n (change (stepped s) k us) qs
units_on n s k us qs f b i q at =
    let h = b i q at in
    record {
      arrived = h.arrived;
      floors = below_after (stepped s) k i (front q) (front q) us (omega (arith))
          (λ u le. let z = f i u.steps in omega (arith, z, le)) h.floors;
    }

-- a unit's change that leaves its steps, where no queue is changed
units_keep : (n : ℕ) (g : PlainUnit → PlainUnit) (k : ℕ) (us : List PlainUnit) (qs : List PlainQueue)
    → ((u : PlainUnit) → (g u).steps ≡ u.steps) → Ordered n us qs → Ordered n (change g k us) qs
units_keep n g k us qs e b i q at =
    let h = b i q at in
    record {
      arrived = h.arrived;
      floors = below_after g k i (front q) (front q) us (omega (arith))
          (λ u le. let z = ap (λ l. next_number i l) (e u) in omega (arith, z, le)) h.floors;
    }

-- a mark raises no next number
mark_floor : (m : MarkBy) (i : ℕ) (h : List Step) → next_number i (step_by m ∷ h) ≡ next_number i h
mark_floor (Abort rule) i h = refl
mark_floor (Reset c) i h = refl

-- Queues go on

-- a queue keeps its slot, and what it accepted
keeps : (n : ℕ) (g : PlainQueue → PlainQueue) (k : ℕ) (us : List PlainUnit) (qs : List PlainQueue)
    → ((q : PlainQueue) → (g q).slot ≡ q.slot)
    → ((q : PlainQueue) → (g q).ring.log.accepted ≡ q.ring.log.accepted) → Ordered n us qs
    → Ordered n us (change g k qs)
keeps n g k us qs es ea b =
    everywhere_else (IsOrdered n us) (IsOrdered n us) g k qs b (λ i q e p. p)
    (λ q at p.
    let many : accepted_of (g q) ≡ accepted_of q = ap (λ (l : List Ticket). length l) (ea q) in
    let now : front (g q) ≡ front q =
    ap (λ s. front_of s (accepted_of (g q))) (es q) ∙ ap (λ z. front_of q.slot z) many in
    record {
      arrived = λ x e. subst (λ z. IsNext n z x) (sym many) (p.arrived x (sym (es q) ∙ e));
      floors = λ j u there. let f = p.floors j u there in omega (arith, f, now);
    })

-- a log with one more ticket
one_more : (ts : List Ticket) (t : Ticket) → length (ts ++ t ∷ []) ≡ length ts + 1
one_more ts t = omega (arith, length-append ts (t ∷ []))

-- a queue whose slot was empty takes a chain
takes : (n : ℕ) (g : PlainQueue → PlainQueue) (k : ℕ) (us : List PlainUnit) (qs : List PlainQueue) (q : PlainQueue)
    → slice_get qs k ≡ Some q → q.slot ≡ Slot.Empty
    → ((x : PlainJob) → (g q).slot ≡ Slot.Arrived x → IsNext n (accepted_of (g q)) x)
    → accepted_of q ≤ front (g q) → Ordered n us qs → Ordered n us (change g k qs)
takes n g k us qs q there empty arr fro b =
    everywhere_else (IsOrdered n us) (IsOrdered n us) g k qs b (λ i z e p. p)
    (λ z at p.
    let is : q ≡ z = same (sym there ∙ at) in
    let Next : PlainQueue → Type 0 = λ (y : PlainQueue). (x : PlainJob) → (g y).slot ≡ Slot.Arrived x
    → IsNext n (accepted_of (g y)) x in
    let was : front z ≡ accepted_of q =
    ap (λ (y : PlainQueue). front y) (sym is) ∙ ap (λ s. front_of s (accepted_of q)) empty in
    let now : front (g q) ≡ front (g z) = ap (λ (y : PlainQueue). front (g y)) is in
    record {
      arrived = subst Next is arr;
      floors = λ j u by. let f = p.floors j u by in omega (arith, f, was, now, fro);
    })

-- a slot from which every ticket that was accepted is gone
record IsPast (s : Slot) : Type 0 where
  none : (y : PlainJob) → s ≡ Slot.Arrived y → ⊥
  front : (n : ℕ) → front_of s n ≡ n

-- an empty slot is one
past_empty : IsPast Slot.Empty
past_empty = record { none = λ y e. not_empty e; front = λ n. refl }

-- and so is one with a chain that is to be answered
past_ready : (c : PlainChain) (o : Outcome) → IsPast (Slot.Direct c o)
past_ready c o = record { none = λ y e. not_arrived e; front = λ n. refl }

-- the ticket's number or the old next number
either_below : (b : Bool) (t f m : ℕ) → f ≤ m → t + 1 ≤ m → cond b (t + 1) f ≤ m
either_below true t f m le h = h
either_below false t f m le h = le

-- what arrived is next
next : (n : ℕ) (x : PlainJob) (w : PlainWorld) (c : Comes w x) → Ordered n w.units w.queues
    → IsNext n (accepted_of c.queue) x
next n x w c b = (b x.chain.ticket.queue c.queue c.there).arrived x c.arrived

-- the step of a request's ticket
abbrev Raises : PlainJob → (PlainUnit → PlainUnit) → Type 0
Raises x g =
    (i : ℕ) (u : PlainUnit) → next_number i (g u).steps
    ≡ cond (eqb x.entry.ticket.queue i) (x.entry.ticket.number + 1) (next_number i u.steps)

-- a request goes on from its slot, and its ticket stands in a history
enters : (n : ℕ) (g : PlainUnit → PlainUnit) (x : PlainJob) (w : PlainWorld) (s : Slot) (c : Comes w x) → Raises x g
    → IsPast s → Ordered n w.units w.queues
    → Ordered n (change g x.unit w.units) (change (slotted s) x.chain.ticket.queue w.queues)
enters n g x w s c raise gone b =
    let k = x.chain.ticket.queue in
    let a = next n x w c b in
    everywhere_else (IsOrdered n w.units) (IsOrdered n (change g x.unit w.units)) (slotted s) k w.queues b
    (λ i q ne p. record {
      arrived = p.arrived;
      floors = below_after g x.unit i (front q) (front q) w.units (omega (arith))
          (λ u le.
          let off = ap (λ (t : Ticket). eqb t.queue i) a.ticket ∙ ne in
          let e = raise i u ∙ ap (λ z. cond z (x.entry.ticket.number + 1) (next_number i u.steps)) off in
          omega (arith, e, le)) p.floors;
    })
    (λ q at p.
    let is : c.queue ≡ q = same (sym c.there ∙ at) in
    let slot : q.slot ≡ Slot.Arrived x = ap (λ (y : PlainQueue). y.slot) (sym is) ∙ c.arrived in
    let latest = (p.arrived x slot).number in
    let was = ap (λ y. front_of y (accepted_of q)) slot in
    let now = gone.front (accepted_of q) in
    record {
      arrived = λ y e. absurd (gone.none y e);
      floors = below_after g x.unit k (front q) (front_of s (accepted_of q)) w.units (omega (arith, latest, was, now))
          (λ u le.
          let e = raise k u in
          let o = either_below (eqb x.entry.ticket.queue k) x.entry.ticket.number (next_number k u.steps) (accepted_of q)
          (omega (arith, le, was, latest)) (omega (arith, latest)) in
          omega (arith, e, o, now)) p.floors;
    })

-- a request goes on from its slot, and its ticket stands in no history
sheds : (n : ℕ) (x : PlainJob) (w : PlainWorld) (s : Slot) (c : Comes w x) → IsPast s → Ordered n w.units w.queues
    → Ordered n w.units (change (slotted s) x.chain.ticket.queue w.queues)
sheds n x w s c gone b =
    everywhere_else (IsOrdered n w.units) (IsOrdered n w.units) (slotted s) x.chain.ticket.queue w.queues b
    (λ i q ne p. p)
    (λ q at p.
    let is : c.queue ≡ q = same (sym c.there ∙ at) in
    let slot : q.slot ≡ Slot.Arrived x = ap (λ (y : PlainQueue). y.slot) (sym is) ∙ c.arrived in
    let latest = (p.arrived x slot).number in
    let was = ap (λ y. front_of y (accepted_of q)) slot in
    let now = gone.front (accepted_of q) in
    record {
      arrived = λ y e. absurd (gone.none y e);
      floors = λ j u by. let f = p.floors j u by in omega (arith, f, was, now, latest);
    })

-- a chain that was to be answered is
directs : (n : ℕ) (m : List ℕ) (c : PlainChain) (o : Outcome) (w : PlainWorld) (r : PlainQueue)
    → slice_get w.queues c.ticket.queue ≡ Some r → r.slot ≡ Slot.Direct c o → Ordered n w.units w.queues
    → Ordered n w.units (change (directing m c) c.ticket.queue w.queues)
directs n m c o w r there ready b =
    everywhere_else (IsOrdered n w.units) (IsOrdered n w.units) (directing m c) c.ticket.queue w.queues b
    (λ i q ne p. p)
    (λ q at p.
    let is : r ≡ q = same (sym there ∙ at) in
    let slot : q.slot ≡ Slot.Direct c o = ap (λ (y : PlainQueue). y.slot) (sym is) ∙ ready in
    let was = ap (λ y. front_of y (accepted_of q)) slot in
    record {
      arrived = λ y e. absurd (not_empty e);
      floors = λ j u by. let f = p.floors j u by in omega (arith, f, was);
    })

-- Transitions

-- the ticket of a chain that is taken
number_taken : (w : PlainWorld) (f : PlainFetch) (h : Finds w f) → f.chain.ticket.number ≡ accepted_of h.queue
number_taken w f h = ap (λ (t : Ticket). t.number) h.taken.ticket

-- a queue takes a chain, and has none in its slot
opens : (g : PlainQueue → PlainQueue) (f : PlainFetch) (w : PlainWorld) (h : Finds w f)
    → ((q : PlainQueue) → (g q).slot ≡ q.slot) → ((q : PlainQueue) → accepted_of (g q) ≡ accepted_of q + 1)
    → AreOrdered w → Ordered (length w.inventory.addresses) w.units (change g f.chain.ticket.queue w.queues)
opens g f w h es more b =
    let q = h.queue in
    let slot = es q ∙ h.empty in
    let now = ap (λ s. front_of s (accepted_of (g q))) slot in
    let m = more q in
    takes (length w.inventory.addresses) g f.chain.ticket.queue w.units w.queues q h.there h.empty
    (λ y e. absurd (not_empty (sym slot ∙ e))) (omega (arith, now, m)) b

-- each transition leaves the tickets in their order
pub transition_orders : (d : Transition) (w : PlainWorld) → MayHappen d w → AreOrdered w → AreOrdered (after d w)
transition_orders (Transition.Arrive f x) w m h =
    let n = length w.inventory.addresses in
    let g = arriving f.chain (Slot.Arrived x) in
    let q = m.finds.queue in
    let number = ap (λ (t : Ticket). t.number) m.ticket ∙ number_taken w f m.finds in
    let more : accepted_of (g q) ≡ accepted_of q + 1 = one_more q.ring.log.accepted (next_ticket q.ring) in
    let one : IsNext n (accepted_of (g q)) x = record {
      number = omega (arith, number, more);
      ticket = m.ticket ∙ ap (λ (c : PlainChain). c.ticket) (sym m.chain);
      unit = decided_there w.inventory f.bytes (lengths_of f.chain) x.unit (request_of x.entry) m.decided;
    } in
    takes n g f.chain.ticket.queue w.units w.queues q m.finds.there m.finds.empty
    (λ y e. subst (λ j. IsNext n (accepted_of (g q)) j) (arrived_is e) one) (omega (arith, number)) h
transition_orders (Transition.Refuse f a) w m h =
    let g = arriving f.chain (Slot.Direct f.chain (Outcome.Decided a)) in
    let q = m.finds.queue in
    let more : accepted_of (g q) ≡ accepted_of q + 1 = one_more q.ring.log.accepted (next_ticket q.ring) in
    takes (length w.inventory.addresses) g f.chain.ticket.queue w.units w.queues q m.finds.there m.finds.empty
    (λ y e. absurd (not_arrived e)) (omega (arith, more)) h
transition_orders (Transition.Open f k) w m h =
    opens (taking f.chain) f w m.finds (λ q. refl) (λ q. one_more q.ring.log.accepted (next_ticket q.ring)) h
transition_orders (Transition.Hold f) w m h =
    opens (taking f.chain) f w m.finds (λ q. refl) (λ q. one_more q.ring.log.accepted (next_ticket q.ring)) h
transition_orders (Transition.UseBuffer f xs) w m h =
    opens (spending xs.seen f.chain) f w m.finds (λ q. refl)
    (λ q. one_more q.ring.log.accepted (next_ticket q.ring)) h
transition_orders (Transition.Break k e) w m h =
    keeps (length w.inventory.addresses) (broken_by e) k w.units w.queues (λ q. refl) (λ q. refl) h
transition_orders (Transition.Run x) w m h =
    let g = stepped (Step.Enter x.entry) in
    enters (length w.inventory.addresses) g x w Slot.Empty m.comes (λ i u. refl) past_empty h
transition_orders (Transition.Park x) w m h =
    enters (length w.inventory.addresses) (parking x) x w Slot.Empty m.comes (λ i u. refl) past_empty h
transition_orders (Transition.EnterFull x) w m h =
    let g = stepped (Step.Full x.entry.ticket) in
    let s = Slot.Direct x.chain (Outcome.Ended Ending.Full) in
    enters (length w.inventory.addresses) g x w s m.comes (λ i u. refl) (past_ready x.chain (Outcome.Ended Ending.Full)) h
transition_orders (Transition.EnterBusy x) w m h =
    let s = Slot.Direct x.chain (Outcome.Ended Ending.Busy) in
    sheds (length w.inventory.addresses) x w s m.comes (past_ready x.chain (Outcome.Ended Ending.Busy)) h
transition_orders (Transition.EnterStale x) w m h =
    let s = Slot.Direct x.chain (Outcome.Ended Ending.Lost) in
    sheds (length w.inventory.addresses) x w s m.comes (past_ready x.chain (Outcome.Ended Ending.Lost)) h
transition_orders (Transition.Direct c o xs) w m h =
    directs (length w.inventory.addresses) xs.seen c o w m.queue m.there m.ready h
transition_orders (Transition.Answer k x o xs) w m h =
    let g = completing xs.seen x.chain in
    keeps (length w.inventory.addresses) g x.chain.ticket.queue w.units w.queues (λ q. refl) (λ q. refl) h
transition_orders (Transition.Respond c r xs) w m h =
    let g = completing xs.seen c in
    keeps (length w.inventory.addresses) g c.ticket.queue w.units w.queues (λ q. refl) (λ q. refl) h
transition_orders (Transition.Give e c xs) w m h =
    let g = completing xs.seen c in
    keeps (length w.inventory.addresses) g c.ticket.queue w.units w.queues (λ q. refl) (λ q. refl) h
transition_orders (Transition.Commit k x r) w m h =
    units_on (length w.inventory.addresses) (Step.Commit x.entry.ticket r) x.unit w.units w.queues (λ i l. refl) h
transition_orders (Transition.Withhold k x r) w m h =
    units_on (length w.inventory.addresses) (Step.Commit x.entry.ticket r) x.unit w.units w.queues (λ i l. refl) h
transition_orders (Transition.CommitBusy k x) w m h =
    units_on (length w.inventory.addresses) (Step.Busy x.entry.ticket) x.unit w.units w.queues (λ i l. refl) h
transition_orders (Transition.Leave k unit_index t jobs) w m h =
    units_on (length w.inventory.addresses) (Step.Leave t) unit_index w.units w.queues (λ i l. refl) h
transition_orders (Transition.Mark t p s jobs) w m h =
    units_on (length w.inventory.addresses) (step_by s) p.unit w.units w.queues (mark_floor s) h
transition_orders (Transition.Hard p jobs) w m h =
    units_on (length w.inventory.addresses) (Step.Reset hard_code) p.unit w.units w.queues (λ i l. refl) h
transition_orders (Transition.Resize unit_index blocks) w m h =
    units_on (length w.inventory.addresses) (Step.Resize blocks) unit_index w.units w.queues (λ i l. refl) h
transition_orders (Transition.Deal unit_index x) w m h =
    units_keep (length w.inventory.addresses) (dealing x) unit_index w.units w.queues (λ u. refl) h
transition_orders d w m h = h

-- a new queue has accepted none, and a new unit has no history
pub new_ordered : (w : PlainWorld) → Opens w → AreOrdered w
new_ordered w o i q at =
    let slot = (o.queues i q at).slot in
    record {
      arrived = λ x e. absurd (not_empty (sym slot ∙ e));
      floors = λ k u there. let z = ap (λ h. next_number i h) (o.units k u there).steps in omega (arith, z);
    }

-- an index within the list has its unit
unit_at : (us : List PlainUnit) (k : ℕ) → k < length us → (u : PlainUnit) × (slice_get us k ≡ Some u)
unit_at [] k h = absurd (omega (arith, h))
unit_at (u ∷ us) zero h = (u, refl)
unit_at (u ∷ us) (suc k) h = unit_at us k (omega (arith, h))

-- what is in the slot is the latest, and its unit is there
latest : (w : PlainWorld) (q : PlainQueue) (s : Slot) → length w.units ≡ length w.inventory.addresses
    → ((x : PlainJob) → s ≡ Slot.Arrived x → IsNext (length w.inventory.addresses) (accepted_of q) x) → SlotIsLatest w q s
latest w q Slot.Empty e h = tt
latest w q (Slot.Direct c o) e h = tt
latest w q (Slot.Arrived x) e h =
    let a = h x refl in
    let u = unit_at w.units x.unit (omega (arith, e, a.unit)) in
    record { number = a.number; unit = u.0; there = u.1 }

-- tickets rise
pub all_behind : (w : PlainWorld) → length w.units ≡ length w.inventory.addresses → AreOrdered w → AreBehind w
all_behind w e h i q at =
    let o = h i q at in
    record { latest = latest w q q.slot e o.arrived; floors = o.floors }
