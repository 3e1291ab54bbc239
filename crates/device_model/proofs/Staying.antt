-- What holds everywhere goes on to do so, and the parts of the device stay.
use Rattle.std.proofs.Common.{◌≡◌, ℕ, ◌+◌, List, [], ◌∷◌, ◌++◌, take, drop, length, Some, refl, sym, ◌∙◌, ap, subst, zero, suc, inl, inr, arith, length-append, length-drop}
use Rattle.std.proofs.lemmas.List.{length-take-le}
use Rattle.std.specs.Prelude.{slice_get, ◌≤◌}
use Rattle.guest_mem.specs.Memory.{LiesIn, with_bytes}
use Rattle.unit_model.specs.Steps.{Step}
use Rattle.request_intake.specs.Inventory.{PlainInventory}
use Rattle.unit_model.specs.Endings.{Ending}
use Rattle.ring_core.specs.State.{PlainChain}
use Rattle.ring_core.specs.Writes.{Write, all_written}
use Rattle.unit_model.specs.Jobs.{PlainJob}
use Rattle.unit_model.specs.Unit.{after as stepped, parking, dealing}
use Rattle.task_mgmt.specs.Functions.{step_by}
use Rattle.device_model.specs.Parts.{Completion, Outcome, Slot, Hand}
use Rattle.device_model.specs.World.{PlainWorld, Opens, change, owner, Everywhere}
use Rattle.device_model.specs.Transitions.{Transition}
use Rattle.device_model.specs.Event.Hard.{hard_code}
use Rattle.device_model.specs.Changing.{arriving, taking, slotted, broken_by, completing, directing, spending, with_hand, without_first, with_jobs, with_job, leaving, completed}
use Rattle.device_model.specs.After.{after}
use Rattle.device_model.specs.Happens.{Occurrence, MayHappen, Runs}
use Rattle.device_model.specs.Laws.{memory_after}
use Rattle.device_model.specs.Lawful.{KeepsParts, LieIn, AllLieIn}
use Rattle.device_model.proofs.Lists.{at_other}

-- the item that is changed still does
pub everywhere : {X : Type 0} (P : ℕ → X → Type 0) (g : X → X) (k : ℕ) (xs : List X)
    → ((x : X) → slice_get xs k ≡ Some x → P k x → P k (g x)) → Everywhere P xs → Everywhere P (change g k xs)
everywhere P g k xs f h i y at =
    let o = at_other g k xs i y at in
    elim o.2 [
      | inl p ↦
          let there = ap (λ j. slice_get xs j) (sym p.0) ∙ o.1 in
          let here = subst (λ j. P j o.0) p.0 (h i o.0 o.1) in
          subst (λ z. P i z) (sym p.1) (subst (λ j. P j (g o.0)) (sym p.0) (f o.0 there here))
      | inr p ↦ subst (λ z. P i z) (sym p.1) (h i o.0 o.1)
    ]

-- a list of which one item is changed is as long
pub many : {X : Type 0} (g : X → X) (k : ℕ) (xs : List X) → length (change g k xs) ≡ length xs
many g k [] = refl
many g zero (x ∷ xs) = refl
many g (suc k) (x ∷ xs) = ap (λ n. suc n) (many g k xs)

-- what holds of the opening and goes on with each transition holds of all that is reached
pub run_keeps : (P : PlainWorld → Type 0) → ((d : Transition) (w : PlainWorld) → MayHappen d w → P w → P (after d w))
    → (old : PlainWorld) (trace : List Occurrence) (w : PlainWorld) → P old → Runs old trace w → P w
run_keeps P f old [] w h r = subst P (sym r) h
run_keeps P f old (e ∷ past) w h r =
    subst P (sym r.2.is) (f r.2.transition r.0 r.2.may (run_keeps P f old past r.0 h r.1))

abbrev Keeping : PlainWorld → PlainWorld → Type 0
Keeping w v = (length v.queues ≡ length w.queues) × (length v.units ≡ length w.units) × (length v.seats
    ≡ length w.seats)

abbrev KeepingLists : PlainWorld → PlainWorld → Type 0
KeepingLists w v = length v.handed_off ≡ length w.handed_off

-- the transition leaves these three as many as they are
so_many : (w v : PlainWorld) → v.shared ≡ w.shared → v.inventory ≡ w.inventory → v.workers ≡ w.workers → v.limit ≡ w.limit → Keeping w v
    → KeepingLists w v → KeepsParts w v
so_many w v s a b c k l =
    record { shared = s; inventory = a; workers = b; limit = c; queues = k.0; units = k.1; seats = k.2; lists = l }

pub all_stay : (w : PlainWorld) → KeepsParts w w
all_stay w = so_many w w refl refl refl refl (refl, refl, refl) refl

joined : (u v w : PlainWorld) → KeepsParts u v → KeepsParts v w → KeepsParts u w
joined u v w a b =
    record {
      shared = b.shared ∙ a.shared;
      inventory = b.inventory ∙ a.inventory;
      workers = b.workers ∙ a.workers;
      limit = b.limit ∙ a.limit;
      queues = b.queues ∙ a.queues;
      units = b.units ∙ a.units;
      seats = b.seats ∙ a.seats;
      lists = b.lists ∙ a.lists;
    }

used_many : (c : PlainChain) (xs : Completion) (w : PlainWorld) → length (completed c xs w) ≡ length w.queues
used_many c xs w = many (completing xs.seen c) c.ticket.queue w.queues

slotted_many : (s : Slot) (x : PlainJob) (w : PlainWorld)
    → length (change (slotted s) x.chain.ticket.queue w.queues) ≡ length w.queues
slotted_many s x w = many (slotted s) x.chain.ticket.queue w.queues

stepped_many : (s : Step) (k : ℕ) (w : PlainWorld) → length (change (stepped s) k w.units) ≡ length w.units
stepped_many s k w = many (stepped s) k w.units

so_many_after : (d : Transition) (w : PlainWorld) → Keeping w (after d w)
so_many_after (Transition.Arrive f x) w =
    (many (arriving f.chain (Slot.Arrived x)) f.chain.ticket.queue w.queues, refl, refl)
so_many_after (Transition.Refuse f a) w =
    (many (arriving f.chain (Slot.Direct f.chain (Outcome.Decided a))) f.chain.ticket.queue w.queues, refl, refl)
so_many_after (Transition.Open f g) w = (many (taking f.chain) f.chain.ticket.queue w.queues, refl, refl)
so_many_after (Transition.Hold f) w = (many (taking f.chain) f.chain.ticket.queue w.queues, refl, refl)
so_many_after (Transition.UseBuffer f xs) w =
    (many (spending xs.seen f.chain) f.chain.ticket.queue w.queues, refl, refl)
so_many_after (Transition.Break k n) w = (many (broken_by n) k w.queues, refl, refl)
so_many_after (Transition.Run x) w = (
  slotted_many Slot.Empty x w,
  stepped_many (Step.Enter x.entry) x.unit w,
  many (with_jobs (x ∷ [])) (owner w.workers x.chain.ticket.queue) w.seats,
)
so_many_after (Transition.Park x) w = (slotted_many Slot.Empty x w, many (parking x) x.unit w.units, refl)
so_many_after (Transition.EnterFull x) w = (
  slotted_many (Slot.Direct x.chain (Outcome.Ended Ending.Full)) x w,
  stepped_many (Step.Full x.entry.ticket) x.unit w,
  refl,
)
so_many_after (Transition.EnterBusy x) w = (slotted_many (Slot.Direct x.chain (Outcome.Ended Ending.Busy)) x w, refl, refl)
so_many_after (Transition.EnterStale x) w = (slotted_many (Slot.Direct x.chain (Outcome.Ended Ending.Lost)) x w, refl, refl)
so_many_after (Transition.Direct c o xs) w =
    (many (directing xs.seen c) c.ticket.queue w.queues, refl, refl)
so_many_after (Transition.Put k x) w = (refl, refl, many (without_first Hand.Empty) k w.seats)
so_many_after (Transition.Keep k x) w = (refl, refl, many (without_first (Hand.Taken x)) k w.seats)
so_many_after (Transition.Take k from x) w = (refl, refl, many (with_hand (Hand.Taken x)) k w.seats)
so_many_after (Transition.Commit k x r) w = (
  refl,
  stepped_many (Step.Commit x.entry.ticket r) x.unit w,
  many (with_hand (Hand.Done x (Outcome.Ended (Ending.Replied r)))) k w.seats,
)
so_many_after (Transition.CommitBusy k x) w = (
  refl,
  stepped_many (Step.Busy x.entry.ticket) x.unit w,
  many (with_hand (Hand.Done x (Outcome.Ended Ending.Busy))) k w.seats,
)
so_many_after (Transition.CommitAborted k x why) w =
    (refl, refl, many (with_hand (Hand.Done x (Outcome.Ended (Ending.Aborted why)))) k w.seats)
so_many_after (Transition.CommitUnknown k x) w =
    (refl, refl, many (with_hand (Hand.Done x (Outcome.Ended Ending.Lost))) k w.seats)
so_many_after (Transition.Defer k x) w = (refl, refl, many (with_hand Hand.Empty) k w.seats)
so_many_after (Transition.Withhold k x r) w =
    (refl, stepped_many (Step.Commit x.entry.ticket r) x.unit w, many (with_hand Hand.Empty) k w.seats)
so_many_after (Transition.Conclude k x r) w =
    (refl, refl, many (with_hand (Hand.Done x (Outcome.Ended (Ending.Replied r)))) k w.seats)
so_many_after (Transition.Resume k x) w = (refl, refl, many (with_hand (Hand.Taken x)) k w.seats)
so_many_after (Transition.Answer k x o xs) w =
    (used_many x.chain xs w, refl, many (with_hand (Hand.Answered x.unit x.chain.ticket)) k w.seats)
so_many_after (Transition.Leave k unit_index t jobs) w =
    (refl, stepped_many (Step.Leave t) unit_index w, many (leaving jobs) k w.seats)
so_many_after (Transition.Mark t p m jobs) w =
    (refl, stepped_many (step_by m) p.unit w, many (with_jobs jobs) 0 w.seats)
so_many_after (Transition.Hard p jobs) w =
    (refl, stepped_many (Step.Reset hard_code) p.unit w, many (with_jobs jobs) w.workers w.seats)
so_many_after (Transition.Resize unit_index blocks) w = (refl, stepped_many (Step.Resize blocks) unit_index w, refl)
so_many_after (Transition.Deal unit_index x) w = (refl, many (dealing x) unit_index w.units, refl)
so_many_after (Transition.Respond c r xs) w = (used_many c xs w, refl, refl)
so_many_after (Transition.Give e c xs) w = (used_many c xs w, refl, refl)
so_many_after d w = (refl, refl, refl)

lists_after : (d : Transition) (w : PlainWorld) → KeepingLists w (after d w)
lists_after (Transition.Put k x) w = many (with_job x) k w.handed_off
lists_after (Transition.Take k from x) w = many (drop 1) from w.handed_off
lists_after d w = refl

shared_after : (d : Transition) (w : PlainWorld) → (after d w).shared ≡ w.shared
shared_after (Transition.Poke x) w = refl
shared_after d w = refl

inventory_after : (d : Transition) (w : PlainWorld) → (after d w).inventory ≡ w.inventory
inventory_after (Transition.Poke x) w = refl
inventory_after d w = refl

workers_after : (d : Transition) (w : PlainWorld) → (after d w).workers ≡ w.workers
workers_after (Transition.Poke x) w = refl
workers_after d w = refl

limit_after : (d : Transition) (w : PlainWorld) → (after d w).limit ≡ w.limit
limit_after (Transition.Poke x) w = refl
limit_after d w = refl

pub transition_stays : (d : Transition) (w : PlainWorld) → KeepsParts w (after d w)
transition_stays d w =
    so_many w (after d w) (shared_after d w) (inventory_after d w) (workers_after d w) (limit_after d w) (so_many_after d w)
    (lists_after d w)

pub run_stays : (old : PlainWorld) (trace : List Occurrence) (w : PlainWorld) → Runs old trace w → KeepsParts old w
run_stays old trace w r =
    run_keeps (λ v. KeepsParts old v) (λ d v m h. joined old v (after d v) h (transition_stays d v))
    old trace w (all_stay old)
    r

-- there are as many units as addresses
pub units_listed : (old : PlainWorld) (trace : List Occurrence) (w : PlainWorld) → Opens old → Runs old trace w
    → length w.units ≡ length w.inventory.addresses
units_listed old trace w o r =
    let k = run_stays old trace w r in
    k.units ∙ o.there ∙ ap (λ (i : PlainInventory). length i.addresses) (sym k.inventory)

long_with : (m : List ℕ) (at : ℕ) (bs : List ℕ) → LiesIn (length m) at (length bs)
    → length (with_bytes m at bs) ≡ length m
long_with m at bs h =
    let rest = drop (length bs) (drop at m) in
    let inside : at + length bs ≤ length m = h in
    let a = length-append (take at m) (bs ++ rest) in
    let b = length-append bs rest in
    let c = length-take-le at m (omega (arith, inside)) in
    let d = length-drop at m in
    let e = length-drop (length bs) (drop at m) in
    omega (arith, a, b, c, d, e, inside)

-- writes that lie in memory leave it as long as it is
long_written : (m : List ℕ) (size : ℕ) (xs : List Write) → length m ≡ size → LieIn size xs
    → length (all_written m xs) ≡ size
long_written m size [] e h = e
long_written m size (x ∷ xs) e h =
    let here = subst (λ n. LiesIn n x.addr (length x.bytes)) (sym e) h.0 in
    long_written (with_bytes m x.addr x.bytes) size xs (long_with m x.addr x.bytes here ∙ e) h.1

pub long_after : (m : List ℕ) (trace : List Occurrence) → AllLieIn (length m) trace
    → length (memory_after m trace) ≡ length m
long_after m [] h = refl
long_after m (e ∷ past) h =
    long_written (memory_after m past) (length m) e.action.writes (long_after m past h.1) h.0

-- no transition changes whether the driver is told of capacities
pub tells_after : (d : Transition) (w : PlainWorld) → (after d w).tells_changes ≡ w.tells_changes
tells_after (Transition.Poke a) w = refl
tells_after (Transition.Arrive a b) w = refl
tells_after (Transition.Refuse a b) w = refl
tells_after (Transition.Open a b) w = refl
tells_after (Transition.Hold a) w = refl
tells_after (Transition.UseBuffer a b) w = refl
tells_after (Transition.Break a b) w = refl
tells_after (Transition.Run a) w = refl
tells_after (Transition.Park a) w = refl
tells_after (Transition.EnterFull a) w = refl
tells_after (Transition.EnterBusy a) w = refl
tells_after (Transition.EnterStale a) w = refl
tells_after (Transition.Direct a b c) w = refl
tells_after (Transition.Put a b) w = refl
tells_after (Transition.Keep a b) w = refl
tells_after (Transition.Take a b c) w = refl
tells_after (Transition.Commit a b c) w = refl
tells_after (Transition.CommitBusy a b) w = refl
tells_after (Transition.CommitAborted a b c) w = refl
tells_after (Transition.CommitUnknown a b) w = refl
tells_after (Transition.Defer a b) w = refl
tells_after (Transition.Withhold a b c) w = refl
tells_after (Transition.Conclude a b c) w = refl
tells_after Transition.Wake w = refl
tells_after (Transition.Resume a b) w = refl
tells_after (Transition.Answer a b c d) w = refl
tells_after (Transition.Leave a b c d) w = refl
tells_after (Transition.Mark a b c d) w = refl
tells_after (Transition.Ask a b c d) w = refl
tells_after (Transition.MarkRefused a) w = refl
tells_after (Transition.Check a b) w = refl
tells_after (Transition.Respond a b c) w = refl
tells_after (Transition.Hard a b) w = refl
tells_after (Transition.Resize a b) w = refl
tells_after (Transition.Deal a b) w = refl
tells_after (Transition.Give a b c) w = refl
tells_after (Transition.Miss a) w = refl
tells_after (Transition.Idle a) w = refl
