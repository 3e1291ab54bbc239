-- What a transition leaves at a part depends on the parts that it touches, and on that part.
use Rattle.std.proofs.Common.{◌≡◌, ℕ, ◌&&◌, [], ◌∷◌, ◌++◌, drop, refl, sym, ◌∙◌, ap, inl}
use Rattle.std.specs.Prelude.{slice_get, option_map}
use Rattle.ring_core.specs.Writes.{all_written}
use Rattle.unit_model.specs.Endings.{Ending}
use Rattle.unit_model.specs.Steps.{Step}
use Rattle.unit_model.specs.Unit.{after as stepped, parking, dealing}
use Rattle.task_mgmt.specs.Functions.{step_by, marking, asking, failing, checking}
use Rattle.device_model.specs.Parts.{Outcome, Slot, Hand, is_short}
use Rattle.device_model.specs.World.{PlainQueue, Seat, PlainWorld, change, owner}
use Rattle.device_model.specs.Transitions.{Transition}
use Rattle.device_model.specs.Changing.{arriving, taking, slotted, broken_by, completing, directing, spending, with_hand, without_first, with_jobs, leaving, with_job, on_function}
use Rattle.device_model.specs.Event.Hard.{hard_code, reports_of}
use Rattle.device_model.specs.Event.Resize.{change_reports}
use Rattle.device_model.specs.After.{after}
use Rattle.host_trace.specs.Parts.{Part, Fixed, Lent, lent, lent_at, slot_at, fixed, At, parts_of}
use Rattle.host_trace.specs.Inner.Passing.{AllAt}
use Rattle.host_trace.proofs.Changes.{both, alike}

abbrev Own : Transition → PlainWorld → PlainWorld → Part → Type 0
Own d w v p = fixed w ≡ fixed v → AllAt (parts_of d w) w v → At p w v → At p (after d w) (after d v)

memory_own : (d : Transition) (w v : PlainWorld) → Own d w v Part.Memory
memory_own (Transition.Poke x) w v f all e = ap (λ m. all_written m (x ∷ [])) e
memory_own (Transition.UseBuffer g xs) w v f all e = ap (λ m. all_written m xs.writes) e
memory_own (Transition.Direct c o xs) w v f all e = ap (λ m. all_written m xs.writes) e
memory_own (Transition.Answer k x o xs) w v f all e = ap (λ m. all_written m xs.writes) e
memory_own (Transition.Respond c r xs) w v f all e = ap (λ m. all_written m xs.writes) e
memory_own (Transition.Give r c xs) w v f all e = ap (λ m. all_written m xs.writes) e
memory_own d w v f all e = e

-- a change of the ring by what a lock lends
ring_both : (g : PlainQueue → PlainQueue) (h : Lent → Lent) → ((q : PlainQueue) → lent (g q) ≡ h (lent q)) → (k : ℕ)
    (w v : PlainWorld) (i : ℕ) → lent_at w i ≡ lent_at v i
    → option_map lent (slice_get (change g k w.queues) i) ≡ option_map lent (slice_get (change g k v.queues) i)
ring_both g h is k w v i e =
    both lent g (λ x y same. is x ∙ ap h same ∙ sym (is y)) k w.queues v.queues i e

abbrev queue_of : Slot → Lent → PlainQueue
queue_of s l = record { ring = l.ring; slot = s; notices = l.notices }

-- a ring that changes whatever the slot is
by_ring : (g : PlainQueue → PlainQueue) → ((q : PlainQueue) → lent (g q) ≡ lent (g (queue_of Slot.Empty (lent q)))) → (k : ℕ)
    (w v : PlainWorld) (i : ℕ) → lent_at w i ≡ lent_at v i
    → option_map lent (slice_get (change g k w.queues) i) ≡ option_map lent (slice_get (change g k v.queues) i)
by_ring g is k w v i e = ring_both g (λ l. lent (g (queue_of Slot.Empty l))) is k w v i e

ring_own : (d : Transition) (w v : PlainWorld) (i : ℕ) → Own d w v (Part.Ring i)
ring_own (Transition.Arrive g x) w v i f all e =
    by_ring (arriving g.chain (Slot.Arrived x)) (λ q. refl) g.chain.ticket.queue w v i e
ring_own (Transition.Refuse g a) w v i f all e =
    by_ring (arriving g.chain (Slot.Direct g.chain (Outcome.Decided a))) (λ q. refl) g.chain.ticket.queue w v i e
ring_own (Transition.Open g n) w v i f all e = by_ring (taking g.chain) (λ q. refl) g.chain.ticket.queue w v i e
ring_own (Transition.Hold g) w v i f all e = by_ring (taking g.chain) (λ q. refl) g.chain.ticket.queue w v i e
ring_own (Transition.UseBuffer g xs) w v i f all e = by_ring (spending xs.seen g.chain) (λ q. refl) g.chain.ticket.queue w v i e
ring_own (Transition.Break k n) w v i f all e = by_ring (broken_by n) (λ q. refl) k w v i e
ring_own (Transition.Run x) w v i f all e = by_ring (slotted Slot.Empty) (λ q. refl) x.chain.ticket.queue w v i e
ring_own (Transition.Park x) w v i f all e = by_ring (slotted Slot.Empty) (λ q. refl) x.chain.ticket.queue w v i e
ring_own (Transition.EnterFull x) w v i f all e =
    by_ring (slotted (Slot.Direct x.chain (Outcome.Ended Ending.Full))) (λ q. refl) x.chain.ticket.queue w v i e
ring_own (Transition.EnterBusy x) w v i f all e =
    by_ring (slotted (Slot.Direct x.chain (Outcome.Ended Ending.Busy))) (λ q. refl) x.chain.ticket.queue w v i e
ring_own (Transition.EnterStale x) w v i f all e =
    by_ring (slotted (Slot.Direct x.chain (Outcome.Ended Ending.Lost))) (λ q. refl) x.chain.ticket.queue w v i e
ring_own (Transition.Direct c o xs) w v i f all e = by_ring (directing xs.seen c) (λ q. refl) c.ticket.queue w v i e
ring_own (Transition.Answer k x o xs) w v i f all e = by_ring (completing xs.seen x.chain)
    (λ q. refl) x.chain.ticket.queue w v i e
ring_own (Transition.Respond c r xs) w v i f all e = by_ring (completing xs.seen c) (λ q. refl) c.ticket.queue w v i e
ring_own (Transition.Give r c xs) w v i f all e = by_ring (completing xs.seen c) (λ q. refl) c.ticket.queue w v i e
ring_own d w v i f all e = e

-- a slot that is changed whatever the ring is
by_slot : (g : PlainQueue → PlainQueue) (h : Slot → Slot) → ((q : PlainQueue) → (g q).slot ≡ h q.slot) → (k : ℕ)
    (w v : PlainWorld) (i : ℕ) → slot_at w i ≡ slot_at v i
    → option_map (λ (q : PlainQueue). q.slot) (slice_get (change g k w.queues) i)
    ≡ option_map (λ (q : PlainQueue). q.slot) (slice_get (change g k v.queues) i)
by_slot g h is k w v i e =
    both (λ (q : PlainQueue). q.slot) g (λ x y same. is x ∙ ap h same ∙ sym (is y)) k w.queues v.queues i e

-- now this, whatever it was; or what it was
abbrev to : Slot → Slot → Slot
to s old = s

abbrev still : Slot → Slot
still s = s

slot_own : (d : Transition) (w v : PlainWorld) (i : ℕ) → Own d w v (Part.Slot i)
slot_own (Transition.Arrive g x) w v i f all e =
    by_slot (arriving g.chain (Slot.Arrived x)) (to (Slot.Arrived x)) (λ q. refl) g.chain.ticket.queue w v i e
slot_own (Transition.Refuse g a) w v i f all e =
    let s = Slot.Direct g.chain (Outcome.Decided a) in
    by_slot (arriving g.chain s) (to s) (λ q. refl) g.chain.ticket.queue w v i e
slot_own (Transition.Open g n) w v i f all e = by_slot (taking g.chain) still (λ q. refl) g.chain.ticket.queue w v i e
slot_own (Transition.Hold g) w v i f all e = by_slot (taking g.chain) still (λ q. refl) g.chain.ticket.queue w v i e
slot_own (Transition.UseBuffer g xs) w v i f all e =
    by_slot (spending xs.seen g.chain) still (λ q. refl) g.chain.ticket.queue w v i e
slot_own (Transition.Break k n) w v i f all e = by_slot (broken_by n) still (λ q. refl) k w v i e
slot_own (Transition.Run x) w v i f all e =
    by_slot (slotted Slot.Empty) (to Slot.Empty) (λ q. refl) x.chain.ticket.queue w v i e
slot_own (Transition.Park x) w v i f all e =
    by_slot (slotted Slot.Empty) (to Slot.Empty) (λ q. refl) x.chain.ticket.queue w v i e
slot_own (Transition.EnterFull x) w v i f all e =
    let s = Slot.Direct x.chain (Outcome.Ended Ending.Full) in by_slot (slotted s) (to s)
    (λ q. refl) x.chain.ticket.queue w v i e
slot_own (Transition.EnterBusy x) w v i f all e =
    let s = Slot.Direct x.chain (Outcome.Ended Ending.Busy) in by_slot (slotted s) (to s)
    (λ q. refl) x.chain.ticket.queue w v i e
slot_own (Transition.EnterStale x) w v i f all e =
    let s = Slot.Direct x.chain (Outcome.Ended Ending.Lost) in by_slot (slotted s) (to s)
    (λ q. refl) x.chain.ticket.queue w v i e
slot_own (Transition.Direct c o xs) w v i f all e =
    by_slot (directing xs.seen c) (to Slot.Empty) (λ q. refl) c.ticket.queue w v i e
slot_own (Transition.Answer k x o xs) w v i f all e =
    by_slot (completing xs.seen x.chain) still (λ q. refl) x.chain.ticket.queue w v i e
slot_own (Transition.Respond c r xs) w v i f all e = by_slot (completing xs.seen c) still (λ q. refl) c.ticket.queue w v i e
slot_own (Transition.Give r c xs) w v i f all e = by_slot (completing xs.seen c) still (λ q. refl) c.ticket.queue w v i e
slot_own d w v i f all e = e

unit_own : (d : Transition) (w v : PlainWorld) (i : ℕ) → Own d w v (Part.UnitAt i)
unit_own (Transition.Run x) w v i f all e = alike (stepped (Step.Enter x.entry)) x.unit w.units v.units i e
unit_own (Transition.Park x) w v i f all e = alike (parking x) x.unit w.units v.units i e
unit_own (Transition.EnterFull x) w v i f all e = alike (stepped (Step.Full x.entry.ticket)) x.unit w.units v.units i e
unit_own (Transition.Commit k x r) w v i f all e = alike (stepped (Step.Commit x.entry.ticket r)) x.unit w.units v.units i e
unit_own (Transition.Withhold k x r) w v i f all e = alike (stepped (Step.Commit x.entry.ticket r)) x.unit w.units v.units i e
unit_own (Transition.CommitBusy k x) w v i f all e = alike (stepped (Step.Busy x.entry.ticket)) x.unit w.units v.units i e
unit_own (Transition.Leave k unit_index t jobs) w v i f all e = alike (stepped (Step.Leave t)) unit_index w.units v.units i e
unit_own (Transition.Mark t p m jobs) w v i f all e = alike (stepped (step_by m)) p.unit w.units v.units i e
unit_own (Transition.Hard p jobs) w v i f all e = alike (stepped (Step.Reset hard_code)) p.unit w.units v.units i e
unit_own (Transition.Resize unit_index blocks) w v i f all e = alike (stepped (Step.Resize blocks)) unit_index w.units v.units i e
unit_own (Transition.Deal unit_index x) w v i f all e = alike (dealing x) unit_index w.units v.units i e
unit_own d w v i f all e = e

-- at a seat whose number goes by the number of workers
seat_by : (g : Seat → Seat) (of : ℕ → ℕ) (w v : PlainWorld) (i : ℕ) → fixed w ≡ fixed v → slice_get w.seats i
    ≡ slice_get v.seats i
    → slice_get (change g (of w.workers) w.seats) i ≡ slice_get (change g (of v.workers) v.seats) i
seat_by g of w v i f e =
    alike g (of w.workers) w.seats v.seats i e
    ∙ ap (λ (z : Fixed). slice_get (change g (of z.workers) v.seats) i) f

seat_own : (d : Transition) (w v : PlainWorld) (i : ℕ) → Own d w v (Part.SeatAt i)
seat_own (Transition.Run x) w v i f all e = seat_by (with_jobs (x ∷ [])) (λ n. owner n x.chain.ticket.queue) w v i f e
seat_own (Transition.Put k x) w v i f all e = alike (without_first Hand.Empty) k w.seats v.seats i e
seat_own (Transition.Keep k x) w v i f all e = alike (without_first (Hand.Taken x)) k w.seats v.seats i e
seat_own (Transition.Take k from x) w v i f all e = alike (with_hand (Hand.Taken x)) k w.seats v.seats i e
seat_own (Transition.Commit k x r) w v i f all e =
    alike (with_hand (Hand.Done x (Outcome.Ended (Ending.Replied r)))) k w.seats v.seats i e
seat_own (Transition.CommitBusy k x) w v i f all e =
    alike (with_hand (Hand.Done x (Outcome.Ended Ending.Busy))) k w.seats v.seats i e
seat_own (Transition.CommitAborted k x why) w v i f all e =
    alike (with_hand (Hand.Done x (Outcome.Ended (Ending.Aborted why)))) k w.seats v.seats i e
seat_own (Transition.CommitUnknown k x) w v i f all e =
    alike (with_hand (Hand.Done x (Outcome.Ended Ending.Lost))) k w.seats v.seats i e
seat_own (Transition.Defer k x) w v i f all e = alike (with_hand Hand.Empty) k w.seats v.seats i e
seat_own (Transition.Withhold k x r) w v i f all e = alike (with_hand Hand.Empty) k w.seats v.seats i e
seat_own (Transition.Conclude k x r) w v i f all e =
    alike (with_hand (Hand.Done x (Outcome.Ended (Ending.Replied r)))) k w.seats v.seats i e
seat_own (Transition.Resume k x) w v i f all e = alike (with_hand (Hand.Taken x)) k w.seats v.seats i e
seat_own (Transition.Answer k x o xs) w v i f all e =
    alike (with_hand (Hand.Answered x.unit x.chain.ticket)) k w.seats v.seats i e
seat_own (Transition.Leave k unit_index t jobs) w v i f all e = alike (leaving jobs) k w.seats v.seats i e
seat_own (Transition.Mark t p m jobs) w v i f all e = alike (with_jobs jobs) 0 w.seats v.seats i e
seat_own (Transition.Hard p jobs) w v i f all e = seat_by (with_jobs jobs) (λ n. n) w v i f e
seat_own d w v i f all e = e

off_own : (d : Transition) (w v : PlainWorld) → Own d w v Part.HandOff
off_own (Transition.Put k x) w v f all e = ap (λ l. change (with_job x) k l) e
off_own (Transition.Take k from x) w v f all e = ap (λ l. change (drop 1) from l) e
off_own d w v f all e = e

function_own : (d : Transition) (w v : PlainWorld) → Own d w v Part.Function
function_own (Transition.Open g n) w v f all e = refl
function_own (Transition.Mark t p m jobs) w v f all e = ap (λ o. on_function (marking p) o) e
function_own (Transition.Ask t unit_index rule b) w v f all e = ap (λ o. on_function (asking b) o) e
function_own (Transition.MarkRefused t) w v f all e = ap (λ o. on_function failing o) e
function_own (Transition.Check t p) w v f all e = ap (λ o. on_function checking o) e
function_own (Transition.Respond c r xs) w v f all e = refl
function_own d w v f all e = e

buffers_own : (d : Transition) (w v : PlainWorld) → Own d w v Part.Buffers
buffers_own (Transition.Hold g) w v f all e = (ap (λ l. l ++ g.chain ∷ []) e.0, e.1)
buffers_own (Transition.UseBuffer g xs) w v f all e = (e.0, ap (λ b. b && is_short g.chain) e.1)
buffers_own (Transition.Give r c xs) w v f all e = (ap (λ l. drop 1 l) e.0, e.1)
buffers_own (Transition.Miss r) w v f all e = (e.0, refl)
buffers_own d w v f all e = e

waiting_own : (d : Transition) (w v : PlainWorld) → Own d w v Part.Waiting
waiting_own (Transition.Hard p jobs) w v f all e =
    ap (λ l. l ++ reports_of (slice_get w.units p.unit)) e ∙ ap (λ u. v.waiting ++ reports_of u) (all (Part.UnitAt p.unit)
    (inl refl))
waiting_own (Transition.Resize unit_index blocks) w v f all e =
    ap (λ l. l ++ change_reports w.tells_changes (slice_get w.units unit_index)) e
    ∙ ap (λ u. v.waiting ++ change_reports w.tells_changes u) (all (Part.UnitAt unit_index) (inl refl))
    ∙ ap (λ (z : Fixed). v.waiting ++ change_reports z.tells_changes (slice_get v.units unit_index)) f
waiting_own (Transition.Give r c xs) w v f all e = ap (λ l. drop 1 l) e
waiting_own (Transition.Miss r) w v f all e = ap (λ l. drop 1 l) e
waiting_own d w v f all e = e

-- those that wait are woken
woken_own : (w v : PlainWorld) → At Part.Aside w v → w.woken ++ w.aside ≡ v.woken ++ v.aside
woken_own w v e = ap (λ l. l ++ w.aside) e.1 ∙ ap (λ l. v.woken ++ l) e.0

aside_own : (d : Transition) (w v : PlainWorld) → Own d w v Part.Aside
aside_own (Transition.Defer k x) w v f all e = (ap (λ l. l ++ x ∷ []) e.0, e.1)
aside_own (Transition.Withhold k x r) w v f all e = (ap (λ l. l ++ x ∷ []) e.0, e.1)
aside_own Transition.Wake w v f all e = (refl, woken_own w v e)
aside_own (Transition.Resume k x) w v f all e = (e.0, ap (λ l. drop 1 l) e.1)
aside_own (Transition.Mark t p m jobs) w v f all e = (refl, woken_own w v e)
aside_own (Transition.Hard p jobs) w v f all e = (refl, woken_own w v e)
aside_own d w v f all e = e

pub own_part : (d : Transition) (w v : PlainWorld) (p : Part) → Own d w v p
own_part d w v Part.Memory f all e = memory_own d w v f all e
own_part d w v (Part.Ring i) f all e = ring_own d w v i f all e
own_part d w v (Part.Slot i) f all e = slot_own d w v i f all e
own_part d w v (Part.UnitAt i) f all e = unit_own d w v i f all e
own_part d w v (Part.SeatAt i) f all e = seat_own d w v i f all e
own_part d w v Part.HandOff f all e = off_own d w v f all e
own_part d w v Part.Function f all e = function_own d w v f all e
own_part d w v Part.Buffers f all e = buffers_own d w v f all e
own_part d w v Part.Waiting f all e = waiting_own d w v f all e
own_part d w v Part.Aside f all e = aside_own d w v f all e
