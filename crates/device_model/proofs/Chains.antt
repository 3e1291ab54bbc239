-- What holds of each chain that stands goes with it from place to place.
use Rattle.std.proofs.Common.{◌≡◌, ℕ, ◌≤◌, Bool, true, false, cond, not, List, [], ◌∷◌, ◌++◌, drop, filter, Option, Some, None, refl, sym, ◌∙◌, ap, subst, arith, zero, suc}
use Rattle.std.specs.Prelude.{slice_get, ⊤}
use Rattle.std.specs.List.{AllByRecursion, sum_by}
use Rattle.std.proofs.lemmas.List.Sums.{sum_by-cons}
use Rattle.unit_model.specs.Endings.{Ending}
use Rattle.unit_model.specs.Steps.{Step}
use Rattle.unit_model.specs.Released.{released}
use Rattle.ring_core.specs.State.{PlainChain}
use Rattle.ring_core.specs.declared.log.Ticket.{Ticket}
use Rattle.unit_model.specs.Jobs.{PlainJob, is_job_of}
use Rattle.task_mgmt.specs.Functions.{PlainFunction, marking, asking, failing, checking, step_by}
use Rattle.unit_model.specs.Unit.{PlainUnit, after as stepped, parking, dealing}
use Rattle.device_model.specs.Parts.{Outcome, Slot, Hand}
use Rattle.device_model.specs.World.{PlainQueue, Seat, Opened, PlainWorld, change, owner, Everywhere, all_of, all_off}
use Rattle.device_model.specs.Transitions.{Transition}
use Rattle.device_model.specs.Changing.{arriving, taking, slotted, broken_by, completing, directing, spending, with_hand, without_first, with_jobs, with_job, leaving, on_function}
use Rattle.device_model.specs.Event.Hard.{hard_code}
use Rattle.device_model.specs.After.{after}
use Rattle.device_model.specs.Happens.{MayHappen}
use Rattle.device_model.specs.Event.Enter.{Comes}
use Rattle.device_model.specs.Found.{handed_out}
use Rattle.device_model.specs.Laws.{in_hand, at_seat}
use Rattle.device_model.specs.Places.{of_chain, of_job, of_slot, of_function, at_queue, at_unit, standing_count}
use Rattle.device_model.specs.Standing.{IsOwned, IsJob, SlotOwns, HandOwns, FunctionOwns}
use Rattle.device_model.proofs.Lists.{nothing, same}
use Rattle.device_model.proofs.Places.{nothing_counts}
use Rattle.device_model.proofs.Staying.{everywhere}
use Rattle.device_model.proofs.Off.{each_put, each_taken, between, between_sum, between_all, between_parts, each_woken, each_push, first_taken}

-- Lists

-- what holds of each holds of both lists, of those that pass a test, and of all but the first
all_append : {X : Type 0} (P : X → Type 0) (xs ys : List X) → AllByRecursion P xs → AllByRecursion P ys
    → AllByRecursion P (xs ++ ys)
all_append P [] ys a b = b
all_append P (x ∷ xs) ys a b = (a.0, all_append P xs ys a.1 b)

all_if : {X : Type 0} (P : X → Type 0) (b : Bool) (x : X) (xs : List X) → P x → AllByRecursion P xs
    → AllByRecursion P (cond b (x ∷ xs) xs)
all_if P true x xs h a = (h, a)
all_if P false x xs h a = a

all_filter : {X : Type 0} (P : X → Type 0) (q : X → Bool) (xs : List X) → AllByRecursion P xs
    → AllByRecursion P (filter q xs)
all_filter P q [] a = tt
all_filter P q (x ∷ xs) a = all_if P (q x) x (filter q xs) a.0 (all_filter P q xs a.1)

all_rest : {X : Type 0} (P : X → Type 0) (xs : List X) → AllByRecursion P xs → AllByRecursion P (drop 1 xs)
all_rest P [] a = tt
all_rest P (x ∷ xs) a = a.1

-- where nothing has a weight
all_turn : {X : Type 0} (P Q : X → Type 0) (f : X → ℕ) (xs : List X) → ((x : X) → P x → f x ≡ 0 → Q x)
    → sum_by f xs ≡ 0 → AllByRecursion P xs → AllByRecursion Q xs
all_turn P Q f [] t z a = tt
all_turn P Q f (x ∷ xs) t z a =
    let s = sum_by-cons f x xs in
    (t x a.0 (omega (arith, s, z)), all_turn P Q f xs t (omega (arith, s, z)) a.1)

-- then none of the items is
weight_none : {X : Type 0} (f : X → ℕ) (xs : List X) → sum_by f xs ≡ 0 → Everywhere (λ i x. f x ≡ 0) xs
weight_none f [] z i x at = absurd (nothing at)
weight_none f (y ∷ xs) z zero x at =
    let a = ap f (same at) in
    let b = sum_by-cons f y xs in
    omega (arith, a, b, z)
weight_none f (y ∷ xs) z (suc i) x at =
    let b = sum_by-cons f y xs in
    weight_none f xs (omega (arith, b, z)) i x at

-- so that each turns from P to Q
every_turn : {X : Type 0} (P Q : ℕ → X → Type 0) (f : X → ℕ) (xs : List X)
    → ((i : ℕ) (x : X) → P i x → f x ≡ 0 → Q i x) → sum_by f xs ≡ 0 → Everywhere P xs → Everywhere Q xs
every_turn P Q f xs t z a i x at = t i x (a i x at) (weight_none f xs z i x at)

-- The places of a world, whose chains are owned in a world v

-- by place: its chains are owned
abbrev pub JobsOwn : PlainWorld → List PlainJob → Type 0
JobsOwn v xs = AllByRecursion (IsJob v) xs

abbrev pub SeatOwns : PlainWorld → Seat → Type 0
SeatOwns v s = HandOwns v s.hand × AllByRecursion (IsJob v) s.out

abbrev pub BufferOwns : PlainWorld → PlainChain → Type 0
BufferOwns v c = (c.ticket.queue ≡ 1) × IsOwned v c

abbrev pub SlotsOwn : PlainWorld → List PlainQueue → Type 0
SlotsOwn v qs = Everywhere (λ i q. SlotOwns v i q.slot) qs

abbrev pub UnitsOwn : PlainWorld → List PlainUnit → Type 0
UnitsOwn v us = Everywhere (λ i u. AllByRecursion (IsJob v) u.parked) us

abbrev pub SeatsOwn : PlainWorld → List Seat → Type 0
SeatsOwn v ss = Everywhere (λ k s. SeatOwns v s) ss

abbrev pub Stand : PlainWorld → PlainWorld → Type 0
Stand v w =
    SlotsOwn v w.queues × UnitsOwn v w.units × SeatsOwn v w.seats × JobsOwn v (between w) × FunctionOwns v w.function
    × AllByRecursion (BufferOwns v) w.buffers

-- One part changes

-- of a queue, of a seat, of a unit: its chains are still owned
slots : (v : PlainWorld) (g : PlainQueue → PlainQueue) (k : ℕ) (qs : List PlainQueue)
    → ((q : PlainQueue) → SlotOwns v k q.slot → SlotOwns v k (g q).slot) → SlotsOwn v qs → SlotsOwn v (change g k qs)
slots v g k qs f h = everywhere (λ i q. SlotOwns v i q.slot) g k qs (λ q at old. f q old) h

seats : (v : PlainWorld) (g : Seat → Seat) (k : ℕ) (ss : List Seat)
    → ((s : Seat) → SeatOwns v s → SeatOwns v (g s)) → SeatsOwn v ss → SeatsOwn v (change g k ss)
seats v g k ss f h = everywhere (λ i s. SeatOwns v s) g k ss (λ s at old. f s old) h

-- a seat gets jobs
gets : (v : PlainWorld) (xs : List PlainJob) (k : ℕ) (ss : List Seat) → JobsOwn v xs → SeatsOwn v ss
    → SeatsOwn v (change (with_jobs xs) k ss)
gets v xs k ss j h = seats v (with_jobs xs) k ss (λ s old. (old.0, all_append (IsJob v) s.out xs old.1 j)) h

-- a seat is left with jobs
leaves : (v : PlainWorld) (xs : List PlainJob) (k : ℕ) (ss : List Seat) → JobsOwn v xs → SeatsOwn v ss
    → SeatsOwn v (change (leaving xs) k ss)
leaves v xs k ss j h = seats v (leaving xs) k ss (λ s old. (tt, all_append (IsJob v) s.out xs old.1 j)) h

-- a seat's hand is another
turns : (v : PlainWorld) (new : Hand) (k : ℕ) (ss : List Seat) → HandOwns v new → SeatsOwn v ss
    → SeatsOwn v (change (with_hand new) k ss)
turns v new k ss n h = seats v (with_hand new) k ss (λ s old. (n, old.1)) h

-- a seat's first job goes
goes : (v : PlainWorld) (new : Hand) (k : ℕ) (ss : List Seat) → HandOwns v new → SeatsOwn v ss
    → SeatsOwn v (change (without_first new) k ss)
goes v new k ss n h = seats v (without_first new) k ss (λ s old. (n, all_rest (IsJob v) s.out old.1)) h

-- a unit takes a step
steps : (v : PlainWorld) (s : Step) (k : ℕ) (us : List PlainUnit) → UnitsOwn v us
    → UnitsOwn v (change (stepped s) k us)
steps v s k us h =
    everywhere (λ i u. AllByRecursion (IsJob v) u.parked) (stepped s) k us
    (λ u at old. all_filter (IsJob v) (λ j. not (is_job_of (released s u.steps) j)) u.parked old) h

-- a unit keeps a job
parks : (v : PlainWorld) (x : PlainJob) (k : ℕ) (us : List PlainUnit) → IsJob v x → UnitsOwn v us
    → UnitsOwn v (change (parking x) k us)
parks v x k us j h =
    everywhere (λ i u. AllByRecursion (IsJob v) u.parked) (parking x) k us
    (λ u at old. all_append (IsJob v) u.parked (x ∷ []) old (j, tt)) h

-- what a step hands out was parked
hands : (v : PlainWorld) (jobs : List PlainJob) (s : Step) (k : ℕ) (us : List PlainUnit) (u : PlainUnit)
    → slice_get us k ≡ Some u → jobs ≡ handed_out u s → UnitsOwn v us → JobsOwn v jobs
hands v jobs s k us u at is h =
    subst (JobsOwn v) (sym is) (all_filter (IsJob v) (is_job_of (released s u.steps)) u.parked (h k u at))

-- a function goes on
functions : (v : PlainWorld) (f : PlainFunction → PlainFunction) (o : Option Opened) → FunctionOwns v o
    → FunctionOwns v (on_function f o)
functions v f None h = tt
functions v f (Some o) h = h

-- a request that arrived
arrived : (v w : PlainWorld) (x : PlainJob) → Comes w x → SlotsOwn v w.queues → IsJob v x
arrived v w x c h = (subst (SlotOwns v x.chain.ticket.queue) c.arrived (h x.chain.ticket.queue c.queue c.there)).1

-- the job of a chain that was taken
as_job : (v : PlainWorld) (x : PlainJob) (c : PlainChain) → x.chain ≡ c → x.entry.ticket ≡ c.ticket
    → 2 ≤ c.ticket.queue → IsOwned v c → IsJob v x
as_job v x c is t r o =
    record {
      chain = subst (IsOwned v) (sym is) o;
      ticket = t ∙ ap (λ (z : PlainChain). z.ticket) (sym is);
      request = subst (λ (z : PlainChain). 2 ≤ z.ticket.queue) (sym is) r;
    }

-- the chain that a transition brings is owned
abbrev pub Brings : PlainWorld → Transition → Type 0
Brings v (Transition.Arrive f x) = IsOwned v f.chain
Brings v (Transition.Refuse f a) = IsOwned v f.chain
Brings v (Transition.Open f g) = IsOwned v f.chain
Brings v (Transition.Hold f) = IsOwned v f.chain
Brings v d = ⊤

-- what stood, and what was brought, stands in its place
pub places : (v : PlainWorld) (d : Transition) (w : PlainWorld) → MayHappen d w → Brings v d → Stand v w → Stand v (after d w)
places v (Transition.Arrive f x) w m b h =
    let j = as_job v x f.chain m.chain m.ticket m.request b in
    let e = ap (λ (c : PlainChain). c.ticket.queue) m.chain in (
      slots v (arriving f.chain (Slot.Arrived x)) f.chain.ticket.queue w.queues (λ q old. (e, j)) h.0,
      h.1,
      h.2,
      h.3,
      h.4,
      h.5,
    )
places v (Transition.Refuse f a) w m b h =
    let g = arriving f.chain (Slot.Direct f.chain (Outcome.Decided a)) in
    (slots v g f.chain.ticket.queue w.queues (λ q old. (refl, b)) h.0, h.1, h.2, h.3, h.4, h.5)
places v (Transition.Open f g) w m b h = (
  slots v (taking f.chain) f.chain.ticket.queue w.queues (λ q old. old) h.0,
  h.1,
  h.2,
  h.3,
  (m.control, b),
  h.5,
)
places v (Transition.Hold f) w m b h = (
  slots v (taking f.chain) f.chain.ticket.queue w.queues (λ q old. old) h.0,
  h.1,
  h.2,
  h.3,
  h.4,
  all_append (BufferOwns v) w.buffers (f.chain ∷ []) h.5 ((m.event, b), tt),
)
places v (Transition.UseBuffer f xs) w m b h =
    let g = spending xs.seen f.chain in
    (slots v g f.chain.ticket.queue w.queues (λ q old. old) h.0, h.1, h.2, h.3, h.4, h.5)
places v (Transition.Break k n) w m b h =
    (slots v (broken_by n) k w.queues (λ q old. old) h.0, h.1, h.2, h.3, h.4, h.5)
places v (Transition.Run x) w m b h =
    let j = arrived v w x m.comes h.0 in (
      slots v (slotted Slot.Empty) x.chain.ticket.queue w.queues (λ q old. tt) h.0,
      steps v (Step.Enter x.entry) x.unit w.units h.1,
      gets v (x ∷ []) (owner w.workers x.chain.ticket.queue) w.seats (j, tt) h.2,
      h.3,
      h.4,
      h.5,
    )
places v (Transition.Park x) w m b h =
    let j = arrived v w x m.comes h.0 in (
      slots v (slotted Slot.Empty) x.chain.ticket.queue w.queues (λ q old. tt) h.0,
      parks v x x.unit w.units j h.1,
      h.2,
      h.3,
      h.4,
      h.5,
    )
places v (Transition.EnterFull x) w m b h =
    let j = arrived v w x m.comes h.0 in
    let g = slotted (Slot.Direct x.chain (Outcome.Ended Ending.Full)) in (
      slots v g x.chain.ticket.queue w.queues (λ q old. (refl, j.chain)) h.0,
      steps v (Step.Full x.entry.ticket) x.unit w.units h.1,
      h.2,
      h.3,
      h.4,
      h.5,
    )
places v (Transition.EnterBusy x) w m b h =
    let j = arrived v w x m.comes h.0 in
    let g = slotted (Slot.Direct x.chain (Outcome.Ended Ending.Busy)) in
    (slots v g x.chain.ticket.queue w.queues (λ q old. (refl, j.chain)) h.0, h.1, h.2, h.3, h.4, h.5)
places v (Transition.EnterStale x) w m b h =
    let j = arrived v w x m.comes h.0 in
    let g = slotted (Slot.Direct x.chain (Outcome.Ended Ending.Lost)) in
    (slots v g x.chain.ticket.queue w.queues (λ q old. (refl, j.chain)) h.0, h.1, h.2, h.3, h.4, h.5)
places v (Transition.Direct c o xs) w m b h =
    let g = directing xs.seen c in
    (slots v g c.ticket.queue w.queues (λ q old. tt) h.0, h.1, h.2, h.3, h.4, h.5)
places v (Transition.Put k x) w m b h =
    let a = between_parts (IsJob v) (all_off w) w.aside w.woken h.3 in
    let j = (h.2 k (record { hand = Hand.Empty; out = x ∷ m.rest }) m.seat).1.0 in (
      h.0,
      h.1,
      goes v Hand.Empty k w.seats tt h.2,
      between_all (IsJob v) (all_of (change (with_job x) k w.handed_off)) w.aside w.woken
          (each_put (IsJob v) k w.handed_off x j a.0) a.1 a.2,
      h.4,
      h.5,
    )
places v (Transition.Keep k x) w m b h =
    let j = (h.2 k (record { hand = Hand.Empty; out = x ∷ m.rest }) m.seat).1.0 in
    (h.0, h.1, goes v (Hand.Taken x) k w.seats j h.2, h.3, h.4, h.5)
places v (Transition.Take k from x) w m b h =
    let a = between_parts (IsJob v) (all_off w) w.aside w.woken h.3 in
    let j = each_taken (IsJob v) from w.handed_off x m.rest m.handed_off a.0 in (
      h.0,
      h.1,
      turns v (Hand.Taken x) k w.seats j.0 h.2,
      between_all (IsJob v) (all_of (change (drop 1) from w.handed_off)) w.aside w.woken j.1 a.1 a.2,
      h.4,
      h.5,
    )
places v (Transition.Commit k x r) w m b h =
    let j = (h.2 k (record { hand = Hand.Taken x; out = m.holds.out }) m.holds.seat).0 in
    let new = Hand.Done x (Outcome.Ended (Ending.Replied r)) in (
      h.0,
      steps v (Step.Commit x.entry.ticket r) x.unit w.units h.1,
      turns v new k w.seats j h.2,
      h.3,
      h.4,
      h.5,
    )
places v (Transition.CommitBusy k x) w m b h =
    let j = (h.2 k (record { hand = Hand.Taken x; out = m.holds.out }) m.holds.seat).0 in
    let new = Hand.Done x (Outcome.Ended Ending.Busy) in (
      h.0,
      steps v (Step.Busy x.entry.ticket) x.unit w.units h.1,
      turns v new k w.seats j h.2,
      h.3,
      h.4,
      h.5,
    )
places v (Transition.CommitAborted k x why) w m b h =
    let j = (h.2 k (record { hand = Hand.Taken x; out = m.holds.out }) m.holds.seat).0 in
    let new = Hand.Done x (Outcome.Ended (Ending.Aborted why)) in
    (h.0, h.1, turns v new k w.seats j h.2, h.3, h.4, h.5)
places v (Transition.CommitUnknown k x) w m b h =
    let j = (h.2 k (record { hand = Hand.Taken x; out = m.holds.out }) m.holds.seat).0 in
    let new = Hand.Done x (Outcome.Ended Ending.Lost) in
    (h.0, h.1, turns v new k w.seats j h.2, h.3, h.4, h.5)
places v (Transition.Defer k x) w m b h =
    let j = (h.2 k (record { hand = Hand.Taken x; out = m.holds.out }) m.holds.seat).0 in
    let a = between_parts (IsJob v) (all_off w) w.aside w.woken h.3 in (
      h.0,
      h.1,
      turns v Hand.Empty k w.seats tt h.2,
      between_all (IsJob v) (all_off w) (w.aside ++ x ∷ []) w.woken a.0 (each_push (IsJob v) w.aside x a.1 j) a.2,
      h.4,
      h.5,
    )
places v (Transition.Withhold k x r) w m b h =
    let j = (h.2 k (record { hand = Hand.Taken x; out = m.holds.out }) m.holds.seat).0 in
    let a = between_parts (IsJob v) (all_off w) w.aside w.woken h.3 in (
      h.0,
      steps v (Step.Commit x.entry.ticket r) x.unit w.units h.1,
      turns v Hand.Empty k w.seats tt h.2,
      between_all (IsJob v) (all_off w) (w.aside ++ x ∷ []) w.woken a.0 (each_push (IsJob v) w.aside x a.1 j) a.2,
      h.4,
      h.5,
    )
places v (Transition.Conclude k x r) w m b h =
    let j = (h.2 k (record { hand = Hand.Taken x; out = m.holds.out }) m.holds.seat).0 in
    let new = Hand.Done x (Outcome.Ended (Ending.Replied r)) in
    (h.0, h.1, turns v new k w.seats j h.2, h.3, h.4, h.5)
places v Transition.Wake w m b h =
    (h.0, h.1, h.2, each_woken (IsJob v) (all_off w) w.aside w.woken h.3, h.4, h.5)
places v (Transition.Resume k x) w m b h =
    let a = between_parts (IsJob v) (all_off w) w.aside w.woken h.3 in
    let r = first_taken (IsJob v) w.woken x m.rest m.first a.2 in (
      h.0,
      h.1,
      turns v (Hand.Taken x) k w.seats r.0 h.2,
      between_all (IsJob v) (all_off w) w.aside (drop 1 w.woken) a.0 a.1 r.1,
      h.4,
      h.5,
    )
places v (Transition.Answer k x o xs) w m b h =
    let g = completing xs.seen x.chain in (
      slots v g x.chain.ticket.queue w.queues (λ q old. old) h.0,
      h.1,
      turns v (Hand.Answered x.unit x.chain.ticket) k w.seats tt h.2,
      h.3,
      h.4,
      h.5,
    )
places v (Transition.Leave k unit_index t jobs) w m b h =
    let j = hands v jobs (Step.Leave t) unit_index w.units m.holds.unit m.holds.there m.enables h.1 in
    (h.0, steps v (Step.Leave t) unit_index w.units h.1, leaves v jobs k w.seats j h.2, h.3, h.4, h.5)
places v (Transition.Mark t p s jobs) w m b h =
    let j = hands v jobs (step_by s) p.unit w.units m.marking.unit m.marking.unit_there m.releases h.1 in (
      h.0,
      steps v (step_by s) p.unit w.units h.1,
      gets v jobs 0 w.seats j h.2,
      each_woken (IsJob v) (all_off w) w.aside w.woken h.3,
      functions v (marking p) w.function h.4,
      h.5,
    )
places v (Transition.Ask t unit_index rule found) w m b h =
    (h.0, h.1, h.2, h.3, functions v (asking found) w.function h.4, h.5)
places v (Transition.MarkRefused t) w m b h = (h.0, h.1, h.2, h.3, functions v failing w.function h.4, h.5)
places v (Transition.Check t p) w m b h = (h.0, h.1, h.2, h.3, functions v checking w.function h.4, h.5)
places v (Transition.Respond c r xs) w m b h =
    let g = completing xs.seen c in
    (slots v g c.ticket.queue w.queues (λ q old. old) h.0, h.1, h.2, h.3, tt, h.5)
places v (Transition.Hard p jobs) w m b h =
    let j = hands v jobs (Step.Reset hard_code) p.unit w.units m.unit m.there m.releases h.1 in (
      h.0,
      steps v (Step.Reset hard_code) p.unit w.units h.1,
      gets v jobs w.workers w.seats j h.2,
      each_woken (IsJob v) (all_off w) w.aside w.woken h.3,
      h.4,
      h.5,
    )
places v (Transition.Resize unit_index blocks) w m b h =
    (h.0, steps v (Step.Resize blocks) unit_index w.units h.1, h.2, h.3, h.4, h.5)
places v (Transition.Deal unit_index x) w m b h = (
  h.0,
  everywhere (λ i u. AllByRecursion (IsJob v) u.parked) (dealing x) unit_index w.units (λ u at old. old) h.1,
  h.2,
  h.3,
  h.4,
  h.5,
)
places v (Transition.Give e c xs) w m b h =
    let g = completing xs.seen c in (
      slots v g c.ticket.queue w.queues (λ q old. old) h.0,
      h.1,
      h.2,
      h.3,
      h.4,
      all_rest (BufferOwns v) w.buffers h.5,
    )
places v d w m b h = h

-- From one world's owning to another's

-- where what stands has no weight
abbrev Turns : (Ticket → ℕ) → PlainWorld → PlainWorld → Type 0
Turns p u v = (c : PlainChain) → IsOwned u c → p c.ticket ≡ 0 → IsOwned v c

job_turns : (p : Ticket → ℕ) (u v : PlainWorld) → Turns p u v → (x : PlainJob) → IsJob u x → of_job p x ≡ 0
    → IsJob v x
job_turns p u v t x j z = record { chain = t x.chain j.chain z; ticket = j.ticket; request = j.request }

slot_turns : (p : Ticket → ℕ) (u v : PlainWorld) → Turns p u v → (i : ℕ) (s : Slot) → SlotOwns u i s
    → of_slot p s ≡ 0 → SlotOwns v i s
slot_turns p u v t i Slot.Empty h z = tt
slot_turns p u v t i (Slot.Arrived x) h z = (h.0, job_turns p u v t x h.1 z)
slot_turns p u v t i (Slot.Direct c o) h z = (h.0, t c h.1 z)

hand_turns : (p : Ticket → ℕ) (u v : PlainWorld) → Turns p u v → (s : Hand) → HandOwns u s
    → in_hand (of_job p) s ≡ 0 → HandOwns v s
hand_turns p u v t Hand.Empty h z = tt
hand_turns p u v t (Hand.Taken x) h z = job_turns p u v t x h z
hand_turns p u v t (Hand.Done x o) h z = job_turns p u v t x h z
hand_turns p u v t (Hand.Answered unit_index s) h z = tt

jobs_turn : (p : Ticket → ℕ) (u v : PlainWorld) → Turns p u v → (xs : List PlainJob)
    → sum_by (of_job p) xs ≡ 0 → JobsOwn u xs → JobsOwn v xs
jobs_turn p u v t xs z h = all_turn (IsJob u) (IsJob v) (of_job p) xs (job_turns p u v t) z h

seat_turns : (p : Ticket → ℕ) (u v : PlainWorld) → Turns p u v → (s : Seat) → SeatOwns u s
    → at_seat (of_job p) s ≡ 0 → SeatOwns v s
seat_turns p u v t s h z =
    (hand_turns p u v t s.hand h.0 (omega (arith, z)), jobs_turn p u v t s.out (omega (arith, z)) h.1)

function_turns : (p : Ticket → ℕ) (u v : PlainWorld) → Turns p u v → (o : Option Opened) → FunctionOwns u o
    → of_function p o ≡ 0 → FunctionOwns v o
function_turns p u v t None h z = tt
function_turns p u v t (Some o) h z = (h.0, t o.chain h.1 z)

-- all that stands turns
pub turn : (p : Ticket → ℕ) (u v w : PlainWorld) → Turns p u v → standing_count p w ≡ 0 → Stand u w → Stand v w
turn p u v w t z h =
    let s = between_sum (of_job p) (all_off w) w.aside w.woken in (
      every_turn (λ i q. SlotOwns u i q.slot) (λ i q. SlotOwns v i q.slot) (at_queue p) w.queues
          (λ i q. slot_turns p u v t i q.slot) (omega (arith, z)) h.0,
      every_turn (λ i x. JobsOwn u x.parked) (λ i x. JobsOwn v x.parked) (at_unit p) w.units
          (λ i x a n. jobs_turn p u v t x.parked n a) (omega (arith, z)) h.1,
      every_turn (λ k s. SeatOwns u s) (λ k s. SeatOwns v s) (at_seat (of_job p)) w.seats
          (λ k s. seat_turns p u v t s) (omega (arith, z)) h.2,
      jobs_turn p u v t (between w) (omega (arith, s, z)) h.3,
      function_turns p u v t w.function h.4 (omega (arith, z)),
      all_turn (BufferOwns u) (BufferOwns v) (of_chain p) w.buffers (λ c b n. (b.0, t c b.1 n)) (omega (arith, z)) h.5,
    )

-- no ticket has a weight

abbrev pub weightless : Ticket → ℕ
weightless t = 0

weightless_slot : (s : Slot) → of_slot weightless s ≡ 0
weightless_slot Slot.Empty = refl
weightless_slot (Slot.Arrived x) = refl
weightless_slot (Slot.Direct c o) = refl

weightless_jobs : (xs : List PlainJob) → sum_by (of_job weightless) xs ≡ 0
weightless_jobs xs = nothing_counts (of_job weightless) xs (λ i x at. refl)

weightless_hand : (s : Hand) → in_hand (of_job weightless) s ≡ 0
weightless_hand Hand.Empty = refl
weightless_hand (Hand.Taken x) = refl
weightless_hand (Hand.Done x o) = refl
weightless_hand (Hand.Answered unit_index t) = refl

weightless_seat : (s : Seat) → at_seat (of_job weightless) s ≡ 0
weightless_seat s =
    let a = weightless_hand s.hand in
    let b = weightless_jobs s.out in
    omega (arith, a, b)

weightless_function : (o : Option Opened) → of_function weightless o ≡ 0
weightless_function None = refl
weightless_function (Some o) = refl

-- so nothing that stands is
pub no_weight : (w : PlainWorld) → standing_count weightless w ≡ 0
no_weight w =
    let a = nothing_counts (at_queue weightless) w.queues (λ i q at. weightless_slot q.slot) in
    let b = nothing_counts (at_unit weightless) w.units (λ i u at. weightless_jobs u.parked) in
    let c = nothing_counts (at_seat (of_job weightless)) w.seats (λ i s at. weightless_seat s) in
    let d = weightless_jobs (all_off w) in
    let x = weightless_jobs w.aside in
    let y = weightless_jobs w.woken in
    let e = weightless_function w.function in
    let f = nothing_counts (of_chain weightless) w.buffers (λ i x at. refl) in
    omega (arith, a, b, c, d, e, f, x, y)
