-- A transition changes no part but those that it touches.
use Rattle.std.proofs.Common.{◌≡◌, ℕ, List, [], ◌∷◌, refl, ap, inl, inr}
use Rattle.std.specs.Prelude.{slice_get, option_map}
use Rattle.unit_model.specs.Endings.{Ending}
use Rattle.unit_model.specs.Steps.{Step}
use Rattle.unit_model.specs.Unit.{PlainUnit, after as stepped, parking, dealing}
use Rattle.task_mgmt.specs.Functions.{step_by}
use Rattle.device_model.specs.Parts.{Outcome, Slot, Hand}
use Rattle.device_model.specs.World.{PlainQueue, PlainWorld, change, owner}
use Rattle.device_model.specs.Transitions.{Transition}
use Rattle.device_model.specs.Changing.{arriving, taking, slotted, broken_by, completing, directing, spending, with_hand, without_first, with_jobs, leaving}
use Rattle.device_model.specs.Event.Hard.{hard_code}
use Rattle.device_model.specs.After.{after}
use Rattle.shared_trace.specs.Halves.{Has}
use Rattle.host_trace.specs.Parts.{Part, lent, lent_at, slot_at, fixed, At, parts_of}
use Rattle.host_trace.proofs.Changes.{other, kept}

pub fixed_kept : (d : Transition) (w : PlainWorld) → fixed (after d w) ≡ fixed w
fixed_kept (Transition.Idle e) w = refl
fixed_kept d w = refl

memory_kept : (d : Transition) (w : PlainWorld) → (Has (parts_of d w) Part.Memory → ⊥) → (after d w).memory ≡ w.memory
memory_kept (Transition.Poke x) w out = absurd (out (inl refl))
memory_kept (Transition.UseBuffer f xs) w out = absurd (out (inr (inr (inl refl))))
memory_kept (Transition.Direct c o xs) w out = absurd (out (inr (inr (inl refl))))
memory_kept (Transition.Answer k x o xs) w out = absurd (out (inr (inr (inl refl))))
memory_kept (Transition.Respond c r xs) w out = absurd (out (inr (inr (inl refl))))
memory_kept (Transition.Give e c xs) w out = absurd (out (inr (inr (inr (inl refl)))))
memory_kept d w out = refl

-- the ring of another queue
ring_other : (g : PlainQueue → PlainQueue) (k : ℕ) (qs : List PlainQueue) (i : ℕ) → (Part.Ring i ≡ Part.Ring k → ⊥)
    → option_map lent (slice_get (change g k qs) i) ≡ option_map lent (slice_get qs i)
ring_other g k qs i apart = ap (λ o. option_map lent o) (other g k qs i (λ e. apart (ap (λ n. Part.Ring n) e)))

slot_only : (s : Slot) (k : ℕ) (qs : List PlainQueue) (i : ℕ)
    → option_map lent (slice_get (change (slotted s) k qs) i) ≡ option_map lent (slice_get qs i)
slot_only s k qs i = kept lent (slotted s) (λ q. refl) k qs i

ring_kept : (d : Transition) (w : PlainWorld) (i : ℕ) → (Has (parts_of d w) (Part.Ring i) → ⊥) → lent_at (after d w) i
    ≡ lent_at w i
ring_kept (Transition.Arrive f x) w i out =
    ring_other (arriving f.chain (Slot.Arrived x)) f.chain.ticket.queue w.queues i (λ e. out (inl e))
ring_kept (Transition.Refuse f a) w i out =
    ring_other (arriving f.chain (Slot.Direct f.chain (Outcome.Decided a))) f.chain.ticket.queue w.queues i (λ e. out (inl e))
ring_kept (Transition.Open f g) w i out = ring_other (taking f.chain) f.chain.ticket.queue w.queues i (λ e. out (inl e))
ring_kept (Transition.Hold f) w i out = ring_other (taking f.chain) f.chain.ticket.queue w.queues i (λ e. out (inl e))
ring_kept (Transition.UseBuffer f xs) w i out =
    ring_other (spending xs.seen f.chain) f.chain.ticket.queue w.queues i (λ e. out (inl e))
ring_kept (Transition.Break k n) w i out = ring_other (broken_by n) k w.queues i (λ e. out (inl e))
ring_kept (Transition.Run x) w i out = slot_only Slot.Empty x.chain.ticket.queue w.queues i
ring_kept (Transition.Park x) w i out = slot_only Slot.Empty x.chain.ticket.queue w.queues i
ring_kept (Transition.EnterFull x) w i out =
    slot_only (Slot.Direct x.chain (Outcome.Ended Ending.Full)) x.chain.ticket.queue w.queues i
ring_kept (Transition.EnterBusy x) w i out =
    slot_only (Slot.Direct x.chain (Outcome.Ended Ending.Busy)) x.chain.ticket.queue w.queues i
ring_kept (Transition.EnterStale x) w i out =
    slot_only (Slot.Direct x.chain (Outcome.Ended Ending.Lost)) x.chain.ticket.queue w.queues i
ring_kept (Transition.Direct c o xs) w i out = ring_other (directing xs.seen c) c.ticket.queue w.queues i (λ e. out (inl e))
ring_kept (Transition.Answer k x o xs) w i out =
    ring_other (completing xs.seen x.chain) x.chain.ticket.queue w.queues i (λ e. out (inr (inl e)))
ring_kept (Transition.Respond c r xs) w i out =
    ring_other (completing xs.seen c) c.ticket.queue w.queues i (λ e. out (inr (inl e)))
ring_kept (Transition.Give e c xs) w i out =
    ring_other (completing xs.seen c) c.ticket.queue w.queues i (λ e. out (inr (inr (inl e))))
ring_kept d w i out = refl

-- the slot of another queue
slot_other : (g : PlainQueue → PlainQueue) (k : ℕ) (qs : List PlainQueue) (i : ℕ) → (Part.Slot i ≡ Part.Slot k → ⊥)
    → option_map (λ (q : PlainQueue). q.slot) (slice_get (change g k qs) i)
    ≡ option_map (λ (q : PlainQueue). q.slot) (slice_get qs i)
slot_other g k qs i apart =
    ap (λ o. option_map (λ (q : PlainQueue). q.slot) o) (other g k qs i (λ e. apart (ap (λ n. Part.Slot n) e)))

slot_same : (g : PlainQueue → PlainQueue) → ((q : PlainQueue) → (g q).slot ≡ q.slot) → (k : ℕ) (qs : List PlainQueue) (i : ℕ)
    → option_map (λ (q : PlainQueue). q.slot) (slice_get (change g k qs) i)
    ≡ option_map (λ (q : PlainQueue). q.slot) (slice_get qs i)
slot_same g same k qs i = kept (λ (q : PlainQueue). q.slot) g same k qs i

slot_kept : (d : Transition) (w : PlainWorld) (i : ℕ) → (Has (parts_of d w) (Part.Slot i) → ⊥) → slot_at (after d w) i
    ≡ slot_at w i
slot_kept (Transition.Arrive f x) w i out =
    slot_other (arriving f.chain (Slot.Arrived x)) f.chain.ticket.queue w.queues i (λ e. out (inr (inl e)))
slot_kept (Transition.Refuse f a) w i out =
    slot_other (arriving f.chain (Slot.Direct f.chain (Outcome.Decided a))) f.chain.ticket.queue w.queues i (λ e. out (inr
    (inl e)))
slot_kept (Transition.Open f g) w i out = slot_same (taking f.chain) (λ q. refl) f.chain.ticket.queue w.queues i
slot_kept (Transition.Hold f) w i out = slot_same (taking f.chain) (λ q. refl) f.chain.ticket.queue w.queues i
slot_kept (Transition.UseBuffer f xs) w i out = slot_same (spending xs.seen f.chain) (λ q. refl) f.chain.ticket.queue w.queues i
slot_kept (Transition.Break k n) w i out = slot_same (broken_by n) (λ q. refl) k w.queues i
slot_kept (Transition.Run x) w i out = slot_other (slotted Slot.Empty) x.chain.ticket.queue w.queues i (λ e. out (inl e))
slot_kept (Transition.Park x) w i out = slot_other (slotted Slot.Empty) x.chain.ticket.queue w.queues i (λ e. out (inl e))
slot_kept (Transition.EnterFull x) w i out =
    slot_other (slotted (Slot.Direct x.chain (Outcome.Ended Ending.Full))) x.chain.ticket.queue w.queues i (λ e. out (inl e))
slot_kept (Transition.EnterBusy x) w i out =
    slot_other (slotted (Slot.Direct x.chain (Outcome.Ended Ending.Busy))) x.chain.ticket.queue w.queues i (λ e. out (inl e))
slot_kept (Transition.EnterStale x) w i out =
    slot_other (slotted (Slot.Direct x.chain (Outcome.Ended Ending.Lost))) x.chain.ticket.queue w.queues i (λ e. out (inl e))
slot_kept (Transition.Direct c o xs) w i out = slot_other (directing xs.seen c) c.ticket.queue w.queues i (λ e. out (inr
    (inl e)))
slot_kept (Transition.Answer k x o xs) w i out = slot_same (completing xs.seen x.chain)
    (λ q. refl) x.chain.ticket.queue w.queues i
slot_kept (Transition.Respond c r xs) w i out = slot_same (completing xs.seen c) (λ q. refl) c.ticket.queue w.queues i
slot_kept (Transition.Give e c xs) w i out = slot_same (completing xs.seen c) (λ q. refl) c.ticket.queue w.queues i
slot_kept d w i out = refl

unit_other : (g : PlainUnit → PlainUnit) (k : ℕ) (w : PlainWorld) (i : ℕ) → (Part.UnitAt i ≡ Part.UnitAt k → ⊥)
    → slice_get (change g k w.units) i ≡ slice_get w.units i
unit_other g k w i apart = other g k w.units i (λ e. apart (ap (λ n. Part.UnitAt n) e))

unit_kept : (d : Transition) (w : PlainWorld) (i : ℕ) → (Has (parts_of d w) (Part.UnitAt i) → ⊥)
    → slice_get (after d w).units i ≡ slice_get w.units i
unit_kept (Transition.Run x) w i out = unit_other (stepped (Step.Enter x.entry)) x.unit w i (λ e. out (inr (inl e)))
unit_kept (Transition.Park x) w i out = unit_other (parking x) x.unit w i (λ e. out (inr (inl e)))
unit_kept (Transition.EnterFull x) w i out = unit_other (stepped (Step.Full x.entry.ticket)) x.unit w i (λ e. out (inr (inl e)))
unit_kept (Transition.Commit k x r) w i out =
    unit_other (stepped (Step.Commit x.entry.ticket r)) x.unit w i (λ e. out (inr (inl e)))
unit_kept (Transition.Withhold k x r) w i out =
    unit_other (stepped (Step.Commit x.entry.ticket r)) x.unit w i (λ e. out (inr (inl e)))
unit_kept (Transition.CommitBusy k x) w i out = unit_other (stepped (Step.Busy x.entry.ticket)) x.unit w i (λ e. out (inr
    (inl e)))
unit_kept (Transition.Leave k unit_index t jobs) w i out = unit_other (stepped (Step.Leave t)) unit_index w i (λ e. out (inr (inl e)))
unit_kept (Transition.Mark t p m jobs) w i out = unit_other (stepped (step_by m)) p.unit w i (λ e. out (inr (inl e)))
unit_kept (Transition.Hard p jobs) w i out = unit_other (stepped (Step.Reset hard_code)) p.unit w i (λ e. out (inl e))
unit_kept (Transition.Resize unit_index blocks) w i out = unit_other (stepped (Step.Resize blocks)) unit_index w i (λ e. out (inl e))
unit_kept (Transition.Deal unit_index x) w i out = unit_other (dealing x) unit_index w i (λ e. out (inl e))
unit_kept d w i out = refl

seat_apart : (i k : ℕ) → (Part.SeatAt i ≡ Part.SeatAt k → ⊥) → i ≡ k → ⊥
seat_apart i k apart e = apart (ap (λ n. Part.SeatAt n) e)

seat_kept : (d : Transition) (w : PlainWorld) (i : ℕ) → (Has (parts_of d w) (Part.SeatAt i) → ⊥)
    → slice_get (after d w).seats i ≡ slice_get w.seats i
seat_kept (Transition.Run x) w i out =
    let k = owner w.workers x.chain.ticket.queue in
    other (with_jobs (x ∷ [])) k w.seats i (seat_apart i k (λ e. out (inr (inr (inl e)))))
seat_kept (Transition.Put k x) w i out = other (without_first Hand.Empty) k w.seats i (seat_apart i k (λ e. out (inl e)))
seat_kept (Transition.Keep k x) w i out = other (without_first (Hand.Taken x)) k w.seats i (seat_apart i k (λ e. out (inl e)))
seat_kept (Transition.Take k from x) w i out = other (with_hand (Hand.Taken x)) k w.seats i (seat_apart i k (λ e. out (inl e)))
seat_kept (Transition.Commit k x r) w i out =
    other (with_hand (Hand.Done x (Outcome.Ended (Ending.Replied r)))) k w.seats i (seat_apart i k (λ e. out (inl e)))
seat_kept (Transition.CommitBusy k x) w i out =
    other (with_hand (Hand.Done x (Outcome.Ended Ending.Busy))) k w.seats i (seat_apart i k (λ e. out (inl e)))
seat_kept (Transition.CommitAborted k x why) w i out =
    other (with_hand (Hand.Done x (Outcome.Ended (Ending.Aborted why)))) k w.seats i (seat_apart i k (λ e. out (inl e)))
seat_kept (Transition.CommitUnknown k x) w i out =
    other (with_hand (Hand.Done x (Outcome.Ended Ending.Lost))) k w.seats i (seat_apart i k (λ e. out (inl e)))
seat_kept (Transition.Defer k x) w i out = other (with_hand Hand.Empty) k w.seats i (seat_apart i k (λ e. out (inl e)))
seat_kept (Transition.Withhold k x r) w i out = other (with_hand Hand.Empty) k w.seats i (seat_apart i k (λ e. out (inl e)))
seat_kept (Transition.Conclude k x r) w i out =
    other (with_hand (Hand.Done x (Outcome.Ended (Ending.Replied r)))) k w.seats i (seat_apart i k (λ e. out (inl e)))
seat_kept (Transition.Resume k x) w i out =
    other (with_hand (Hand.Taken x)) k w.seats i (seat_apart i k (λ e. out (inl e)))
seat_kept (Transition.Answer k x o xs) w i out =
    other (with_hand (Hand.Answered x.unit x.chain.ticket)) k w.seats i (seat_apart i k (λ e. out (inl e)))
seat_kept (Transition.Leave k unit_index t jobs) w i out = other (leaving jobs) k w.seats i (seat_apart i k (λ e. out (inl e)))
seat_kept (Transition.Mark t p m jobs) w i out = other (with_jobs jobs) 0 w.seats i (seat_apart i 0 (λ e. out (inr (inr
    (inl e)))))
seat_kept (Transition.Hard p jobs) w i out =
    other (with_jobs jobs) w.workers w.seats i (seat_apart i w.workers (λ e. out (inr (inl e))))
seat_kept d w i out = refl

off_kept : (d : Transition) (w : PlainWorld) → (Has (parts_of d w) Part.HandOff → ⊥) → (after d w).handed_off ≡ w.handed_off
off_kept (Transition.Put k x) w out = absurd (out (inr (inl refl)))
off_kept (Transition.Take k from x) w out = absurd (out (inr (inl refl)))
off_kept d w out = refl

function_kept : (d : Transition) (w : PlainWorld) → (Has (parts_of d w) Part.Function → ⊥) → (after d w).function ≡ w.function
function_kept (Transition.Open f g) w out = absurd (out (inr (inr (inr (inl refl)))))
function_kept (Transition.Mark t p m jobs) w out = absurd (out (inl refl))
function_kept (Transition.Ask t unit_index rule b) w out = absurd (out (inl refl))
function_kept (Transition.MarkRefused t) w out = absurd (out (inl refl))
function_kept (Transition.Check t p) w out = absurd (out (inl refl))
function_kept (Transition.Respond c r xs) w out = absurd (out (inl refl))
function_kept d w out = refl

buffers_kept : (d : Transition) (w : PlainWorld) → (Has (parts_of d w) Part.Buffers → ⊥)
    → ((after d w).buffers ≡ w.buffers) × ((after d w).missed ≡ w.missed)
buffers_kept (Transition.Hold f) w out = absurd (out (inr (inr (inr (inl refl)))))
buffers_kept (Transition.UseBuffer f xs) w out = absurd (out (inr (inr (inr (inl refl)))))
buffers_kept (Transition.Give e c xs) w out = absurd (out (inl refl))
buffers_kept (Transition.Miss e) w out = absurd (out (inl refl))
buffers_kept d w out = (refl, refl)

waiting_kept : (d : Transition) (w : PlainWorld) → (Has (parts_of d w) Part.Waiting → ⊥) → (after d w).waiting ≡ w.waiting
waiting_kept (Transition.Hard p jobs) w out = absurd (out (inr (inr (inl refl))))
waiting_kept (Transition.Resize unit_index blocks) w out = absurd (out (inr (inl refl)))
waiting_kept (Transition.Give e c xs) w out = absurd (out (inr (inl refl)))
waiting_kept (Transition.Miss e) w out = absurd (out (inr (inl refl)))
waiting_kept d w out = refl

aside_kept : (d : Transition) (w : PlainWorld) → (Has (parts_of d w) Part.Aside → ⊥)
    → ((after d w).aside ≡ w.aside) × ((after d w).woken ≡ w.woken)
aside_kept (Transition.Defer k x) w out = absurd (out (inr (inr (inl refl))))
aside_kept (Transition.Withhold k x r) w out = absurd (out (inr (inr (inl refl))))
aside_kept Transition.Wake w out = absurd (out (inl refl))
aside_kept (Transition.Resume k x) w out = absurd (out (inr (inl refl)))
aside_kept (Transition.Mark t p m jobs) w out = absurd (out (inr (inr (inr (inl refl)))))
aside_kept (Transition.Hard p jobs) w out = absurd (out (inr (inr (inr (inl refl)))))
aside_kept d w out = (refl, refl)

pub others_kept : (d : Transition) (w : PlainWorld) (p : Part) → (Has (parts_of d w) p → ⊥) → At p (after d w) w
others_kept d w Part.Memory out = memory_kept d w out
others_kept d w (Part.Ring i) out = ring_kept d w i out
others_kept d w (Part.Slot i) out = slot_kept d w i out
others_kept d w (Part.UnitAt i) out = unit_kept d w i out
others_kept d w (Part.SeatAt i) out = seat_kept d w i out
others_kept d w Part.HandOff out = off_kept d w out
others_kept d w Part.Function out = function_kept d w out
others_kept d w Part.Buffers out = buffers_kept d w out
others_kept d w Part.Waiting out = waiting_kept d w out
others_kept d w Part.Aside out = aside_kept d w out
