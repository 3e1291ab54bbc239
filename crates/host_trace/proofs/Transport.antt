-- Whether a transition may happen depends on the parts that it touches alone.
use Rattle.std.proofs.Common.{◌≡◌, ℕ, zero, suc, ◌<◌, ◌≤◌, ◌||◌, Bool, true, false, List, ◌∷◌, length, Option, Some, None, refl, sym, ◌∙◌, ap, subst, inl, inr}
use Rattle.std.specs.Prelude.{slice_get, option_map}
use Rattle.guest_mem.specs.Memory.{LiesIn}
use Rattle.ring_core.specs.State.{RingState}
use Rattle.ring_core.specs.Writes.{all_written}
use Rattle.ring_core.specs.Offer.{Offers, Refused}
use Rattle.ring_core.specs.Fetch.{Takes}
use Rattle.ring_core.specs.declared.log.Ticket.{Ticket}
use Rattle.request_intake.specs.declared.decision.Decision.TheVariants as decision
use Rattle.task_mgmt.specs.declared.control.ControlDecision.TheVariants as managed
use Rattle.task_mgmt.specs.declared.kind.Kind.{Kind}
use Rattle.task_mgmt.specs.declared.function.Mark.{Mark as MarkAt}
use Rattle.unit_model.specs.Jobs.{PlainJob}
use Rattle.device_model.specs.Parts.{PlainFetch, Completion, IsSeen, Hand, answer_writes, is_short, request_of}
use Rattle.device_model.specs.World.{PlainQueue, PlainWorld, owner}
use Rattle.device_model.specs.Transitions.{Transition}
use Rattle.device_model.specs.Changing.{with_chain}
use Rattle.device_model.specs.Happens.{Happens}
use Rattle.device_model.specs.Event.Fetch.{Finds, IsOpenTo, DecidesRequest, DecidesControl, IsDirect}
use Rattle.device_model.specs.Event.Enter.{Comes}
use Rattle.device_model.specs.Found.{HandAtUnit}
use Rattle.device_model.specs.Event.Mark.{IsMarking}
use Rattle.device_model.specs.Event.Check.{IsWaiting}
use Rattle.shared_trace.specs.Halves.{Has}
use Rattle.host_trace.specs.Parts.{Part, Fixed, lent, lent_at, slot_at, fixed, parts_of, control, first_of, marked_next, entering}
use Rattle.host_trace.specs.Inner.Passing.{AllAt}
use Rattle.host_trace.proofs.Changes.{none_is, some_is}

-- what f sees of an item is what it saw
there : {X Y : Type 0} (f : X → Y) (o : Option X) (y : Y) → option_map f o ≡ Some y → (x : X) × (o ≡ Some x) × (f x ≡ y)
there f None y e = absurd (none_is e)
there f (Some x) y e = (x, refl, some_is e)

ring_there : (w v : PlainWorld) (i : ℕ) (q : PlainQueue) → lent_at w i ≡ lent_at v i → slice_get w.queues i ≡ Some q
    → (r : PlainQueue) × (slice_get v.queues i ≡ Some r) × (r.ring ≡ q.ring)
ring_there w v i q e at =
    let t = there lent (slice_get v.queues i) (lent q) (sym e ∙ ap (λ o. option_map lent o) at) in
    (t.0, t.1, ap (λ l. l.ring) t.2)

slot_there : (w v : PlainWorld) (i : ℕ) (q : PlainQueue) → slot_at w i ≡ slot_at v i → slice_get w.queues i ≡ Some q
    → (r : PlainQueue) × (slice_get v.queues i ≡ Some r) × (r.slot ≡ q.slot)
slot_there w v i q e at =
    there (λ (z : PlainQueue). z.slot) (slice_get v.queues i) q.slot (sym e
    ∙ ap (λ o. option_map (λ (z : PlainQueue). z.slot) o) at)

queue_there : (w v : PlainWorld) (i : ℕ) (q : PlainQueue) → lent_at w i ≡ lent_at v i → slot_at w i ≡ slot_at v i
    → slice_get w.queues i ≡ Some q → (r : PlainQueue) × (slice_get v.queues i ≡ Some r) × (r.ring ≡ q.ring) × (r.slot ≡ q.slot)
queue_there w v i q e s at =
    let r = ring_there w v i q e at in
    let t = slot_there w v i q s at in
    let is : r.0 ≡ t.0 = some_is (sym r.1 ∙ t.1) in
    (r.0, r.1, r.2, ap (λ (z : PlainQueue). z.slot) is ∙ t.2)

seen_at : (w v : PlainWorld) (xs : Completion) → fixed w ≡ fixed v → w.memory ≡ v.memory
    → IsSeen w.shared (all_written w.memory xs.writes) xs.seen → IsSeen v.shared (all_written v.memory xs.writes) xs.seen
seen_at w v xs f m h =
    subst (λ (z : Fixed). IsSeen z.shared (all_written v.memory xs.writes) xs.seen) f
    (subst (λ l. IsSeen w.shared (all_written l xs.writes) xs.seen) m h)

finds_at : (w v : PlainWorld) (g : PlainFetch) → lent_at w g.chain.ticket.queue ≡ lent_at v g.chain.ticket.queue
    → slot_at w g.chain.ticket.queue ≡ slot_at v g.chain.ticket.queue → w.memory ≡ v.memory → (h : Finds w g)
    → (n : Finds v g) × (n.queue.ring ≡ h.queue.ring)
finds_at w v g e s m h =
    let r = queue_there w v g.chain.ticket.queue h.queue e s h.there in
    let ring = h.queue.ring in (
      record {
        queue = r.0;
        there = r.1;
        empty = r.3 ∙ h.empty;
        taken =
            subst (λ (z : RingState). Takes z v.memory g.chain g.bytes (with_chain g.chain z)) (sym r.2)
            (subst (λ l. Takes ring l g.chain g.bytes (with_chain g.chain ring)) m h.taken);
      },
      r.2,
    )

open_at : (w v : PlainWorld) (q : ℕ) → AllAt (control q) w v → IsOpenTo w q → IsOpenTo v q
open_at w v zero all h = sym (all Part.Function (inl refl)) ∙ h
open_at w v (suc q) all h = h

comes_at : (w v : PlainWorld) (x : PlainJob) → fixed w ≡ fixed v → AllAt (entering x w) w v → (h : Comes w x)
    → (n : Comes v x) × (n.unit ≡ h.unit)
comes_at w v x f all h =
    let q = x.chain.ticket.queue in
    let t = slot_there w v q h.queue (all (Part.Slot q) (inl refl)) h.there in (
      record {
        queue = t.0;
        there = t.1;
        arrived = t.2 ∙ h.arrived;
        unit = h.unit;
        unit_there = sym (all (Part.UnitAt x.unit) (inr (inl refl))) ∙ h.unit_there;
        seat = h.seat;
        seat_there =
            subst (λ (z : Fixed). slice_get v.seats (owner z.workers q) ≡ Some h.seat) f
            (sym (all (Part.SeatAt (owner w.workers q)) (inr (inr (inl refl)))) ∙ h.seat_there);
      },
      refl,
    )

hand_at : (w v : PlainWorld) (k : ℕ) (hand : Hand) (unit_index : ℕ) → slice_get w.seats k ≡ slice_get v.seats k
    → slice_get w.units unit_index ≡ slice_get v.units unit_index → HandAtUnit w k hand unit_index → HandAtUnit v k hand unit_index
hand_at w v k hand unit_index s u h = record { out = h.out; seat = sym s ∙ h.seat; unit = h.unit; there = sym u ∙ h.there }

marking_at : (w v : PlainWorld) (t : Ticket) (unit_index : ℕ) (kind : Kind) → w.function ≡ v.function
    → slice_get w.units unit_index ≡ slice_get v.units unit_index → IsMarking w t unit_index kind → IsMarking v t unit_index kind
marking_at w v t unit_index kind e u h =
    record {
      opened = h.opened;
      there = sym e ∙ h.there;
      of = h.of;
      does = h.does;
      later = h.later;
      left = h.left;
      unit = h.unit;
      unit_there = sym u ∙ h.unit_there;
    }

waiting_at : (w v : PlainWorld) (t : Ticket) (marks : List MarkAt) → w.function ≡ v.function → IsWaiting w t marks
    → IsWaiting v t marks
waiting_at w v t marks e h =
    record { opened = h.opened; there = sym e ∙ h.there; of = h.of; left = h.left; still = h.still }

pub happens_at : (d : Transition) (w v : PlainWorld) → fixed w ≡ fixed v → AllAt (parts_of d w) w v → Happens d w → Happens d v
unfolding comes_at hand_at marking_at waiting_at
happens_at (Transition.Poke x) w v f all h =
    subst (λ (m : List ℕ). LiesIn (length m) x.addr (length x.bytes)) (all Part.Memory (inl refl)) h
happens_at (Transition.Arrive g x) w v f all h =
    let q = g.chain.ticket.queue in
    let n = finds_at w v g (all (Part.Ring q) (inl refl)) (all (Part.Slot q) (inr (inl refl))) (all Part.Memory (inr (inr
    (inl refl)))) h.finds in
    record {
      finds = n.0;
      request = h.request;
      chain = h.chain;
      ticket = h.ticket;
      decided = subst (λ (z : Fixed). DecidesRequest z.inventory g (decision.Enter x.unit (request_of x.entry))) f h.decided;
      addressed = subst (λ (z : Fixed). slice_get z.inventory.addresses x.unit ≡ Some x.address) f h.addressed;
    }
happens_at (Transition.Refuse g a) w v f all h =
    let q = g.chain.ticket.queue in
    let n = finds_at w v g (all (Part.Ring q) (inl refl)) (all (Part.Slot q) (inr (inl refl))) (all Part.Memory (inr (inr
    (inl refl)))) h.finds in
    record {
      finds = n.0;
      opened = open_at w v q (λ p has. all p (inr (inr (inr has)))) h.opened;
      kind = h.kind;
      decided = subst (λ (z : Fixed). IsDirect z.inventory q g a) f h.decided;
    }
happens_at (Transition.Open g k) w v f all h =
    let q = g.chain.ticket.queue in
    let n = finds_at w v g (all (Part.Ring q) (inl refl)) (all (Part.Slot q) (inr (inl refl))) (all Part.Memory (inr (inr
    (inl refl)))) h.finds in
    record {
      finds = n.0;
      closed = sym (all Part.Function (inr (inr (inr (inl refl))))) ∙ h.closed;
      control = h.control;
      decided = subst (λ (z : Fixed). DecidesControl z.inventory g (managed.Opens k)) f h.decided;
    }
happens_at (Transition.Hold g) w v f all h =
    let q = g.chain.ticket.queue in
    let n = finds_at w v g (all (Part.Ring q) (inl refl)) (all (Part.Slot q) (inr (inl refl))) (all Part.Memory (inr (inr
    (inl refl)))) h.finds in
    record {
      finds = n.0;
      event = h.event;
      decided = subst (λ (b : Bool). (is_short g.chain || b) ≡ false) (all Part.Buffers (inr (inr (inr
          (inl refl))))).1 h.decided;
    }
happens_at (Transition.UseBuffer g xs) w v f all h =
    let q = g.chain.ticket.queue in
    let m = all Part.Memory (inr (inr (inl refl))) in
    let n = finds_at w v g (all (Part.Ring q) (inl refl)) (all (Part.Slot q) (inr (inl refl))) m h.finds in
    record {
      finds = n.0;
      event = h.event;
      decided = subst (λ (b : Bool). (is_short g.chain || b) ≡ true) (all Part.Buffers (inr (inr (inr
          (inl refl))))).1 h.decided;
      writes = h.writes ∙ ap (λ z. answer_writes (with_chain g.chain z) g.chain _) (sym n.1);
      seen = seen_at w v xs f m h.seen;
    }
happens_at (Transition.Break q k) w v f all h =
    let r = queue_there w v q h.queue (all (Part.Ring q) (inl refl)) (all (Part.Slot q) (inr (inl refl))) h.there in
    record {
      queue = r.0;
      there = r.1;
      empty = r.3 ∙ h.empty;
      whole = ap (λ z. z.broken) r.2 ∙ h.whole;
      opened = open_at w v q (λ p has. all p (inr (inr (inr has)))) h.opened;
      offered =
          subst (λ z. Offers z v.memory (Refused k)) (sym r.2)
          (subst (λ m. Offers h.queue.ring m (Refused k)) (all Part.Memory (inr (inr (inl refl)))) h.offered);
    }
happens_at (Transition.Run x) w v f all h =
    let n = comes_at w v x f all h.comes in
    record { comes = n.0; named = h.named; may = h.may; blocked = h.blocked }
happens_at (Transition.Park x) w v f all h =
    let n = comes_at w v x f all h.comes in
    record { comes = n.0; named = h.named; may = h.may; blocked = h.blocked }
happens_at (Transition.EnterFull x) w v f all h =
    let n = comes_at w v x f all h.comes in record { comes = n.0; named = h.named; may = h.may }
happens_at (Transition.EnterBusy x) w v f all h =
    let n = comes_at w v x f all h.comes in record { comes = n.0; named = h.named; fresh = h.fresh }
happens_at (Transition.EnterStale x) w v f all h = h
happens_at (Transition.Direct c o xs) w v f all h =
    let q = c.ticket.queue in
    let m = all Part.Memory (inr (inr (inl refl))) in
    let r = queue_there w v q h.queue (all (Part.Ring q) (inl refl)) (all (Part.Slot q) (inr (inl refl))) h.there in
    record {
      queue = r.0;
      there = r.1;
      ready = r.3 ∙ h.ready;
      writes = h.writes ∙ ap (λ z. answer_writes z c _) (sym r.2);
      seen = seen_at w v xs f m h.seen;
    }
happens_at (Transition.Put k x) w v f all h =
    record {
      rest = h.rest;
      seat = sym (all (Part.SeatAt k) (inl refl)) ∙ h.seat;
      off = h.off;
      there = subst (λ l. slice_get l k ≡ Some h.off) (all Part.HandOff (inr (inl refl))) h.there;
      room = subst (λ (z : Fixed). length h.off < z.limit) f h.room;
    }
happens_at (Transition.Keep k x) w v f all h =
    record {
      rest = h.rest;
      seat = sym (all (Part.SeatAt k) (inl refl)) ∙ h.seat;
      off = h.off;
      there = subst (λ l. slice_get l k ≡ Some h.off) (all Part.HandOff (inr (inl refl))) h.there;
      full = subst (λ (z : Fixed). z.limit ≤ length h.off) f h.full;
    }
happens_at (Transition.Take k from x) w v f all h =
    let off = all Part.HandOff (inr (inl refl)) in
    record {
      worker = subst (λ (z : Fixed). k < z.workers) f h.worker;
      seat = sym (all (Part.SeatAt k) (inl refl)) ∙ h.seat;
      rest = h.rest;
      handed_off = subst (λ l. slice_get l from ≡ Some (x ∷ h.rest)) off h.handed_off;
      first = λ i jobs before at. h.first i jobs before (subst (λ l. slice_get l i ≡ Some jobs) (sym off) at);
    }
happens_at (Transition.Commit k x r) w v f all h =
    record {
      holds = hand_at w v k (Hand.Taken x) x.unit (all (Part.SeatAt k) (inl refl)) (all (Part.UnitAt x.unit) (inr
          (inl refl))) h.holds;
      may = h.may;
    }
happens_at (Transition.CommitBusy k x) w v f all h =
    record {
      holds = hand_at w v k (Hand.Taken x) x.unit (all (Part.SeatAt k) (inl refl)) (all (Part.UnitAt x.unit) (inr
          (inl refl))) h.holds;
      may = h.may;
      wants = h.wants;
    }
happens_at (Transition.CommitAborted k x why) w v f all h =
    record {
      holds = hand_at w v k (Hand.Taken x) x.unit (all (Part.SeatAt k) (inl refl)) (all (Part.UnitAt x.unit) (inr
          (inl refl))) h.holds;
      alive = h.alive;
      marked = h.marked;
    }
happens_at (Transition.CommitUnknown k x) w v f all h = h
happens_at (Transition.Defer k x) w v f all h =
    record {
      holds = hand_at w v k (Hand.Taken x) x.unit (all (Part.SeatAt k) (inl refl)) (all (Part.UnitAt x.unit) (inr
          (inl refl))) h.holds;
      entry = h.entry;
      waits = h.waits;
    }
happens_at (Transition.Withhold k x r) w v f all h =
    record {
      holds = hand_at w v k (Hand.Taken x) x.unit (all (Part.SeatAt k) (inl refl)) (all (Part.UnitAt x.unit) (inr
          (inl refl))) h.holds;
      may = h.may;
    }
happens_at (Transition.Conclude k x r) w v f all h =
    record {
      holds = hand_at w v k (Hand.Taken x) x.unit (all (Part.SeatAt k) (inl refl)) (all (Part.UnitAt x.unit) (inr
          (inl refl))) h.holds;
      may = h.may;
    }
happens_at Transition.Wake w v f all h =
    record { first = h.first; rest = h.rest; waits = sym (all Part.Aside (inl refl)).0 ∙ h.waits }
happens_at (Transition.Resume k x) w v f all h =
    record {
      worker = subst (λ (z : Fixed). k < z.workers) f h.worker;
      free = (h.free.0, sym (all (Part.SeatAt k) (inl refl)) ∙ h.free.1);
      rest = h.rest;
      first = sym (all Part.Aside (inr (inl refl))).1 ∙ h.first;
    }
happens_at (Transition.Answer k x o xs) w v f all h =
    let q = x.chain.ticket.queue in
    let m = all Part.Memory (inr (inr (inl refl))) in
    let r = ring_there w v q h.queue (all (Part.Ring q) (inr (inl refl))) h.there in
    record {
      out = h.out;
      seat = sym (all (Part.SeatAt k) (inl refl)) ∙ h.seat;
      queue = r.0;
      there = r.1;
      writes = h.writes ∙ ap (λ z. answer_writes z x.chain _) (sym r.2);
      seen = seen_at w v xs f m h.seen;
    }
happens_at (Transition.Leave k unit_index t jobs) w v f all h =
    record {
      holds =
          hand_at w v k (Hand.Answered unit_index t) unit_index (all (Part.SeatAt k) (inl refl)) (all (Part.UnitAt unit_index) (inr
          (inl refl))) h.holds;
      may = h.may;
      enables = h.enables;
    }
happens_at (Transition.Mark t p m jobs) w v f all h =
    record {
      marking =
          marking_at w v t p.unit _ (all Part.Function (inl refl)) (all (Part.UnitAt p.unit) (inr (inl refl))) h.marking;
      before = h.before;
      releases = h.releases;
      seat = h.seat;
      seat_there = sym (all (Part.SeatAt 0) (inr (inr (inl refl)))) ∙ h.seat_there;
    }
happens_at (Transition.Ask t unit_index rule b) w v f all h =
    record {
      marking = marking_at w v t unit_index _ (all Part.Function (inl refl)) (all (Part.UnitAt unit_index) (inr (inl refl))) h.marking;
      is = h.is;
    }
happens_at (Transition.MarkRefused t) w v f all h =
    let m = h.marking in
    let has : Has (marked_next w.function) (Part.UnitAt h.unit_index) =
    subst (λ o. Has (marked_next o) (Part.UnitAt h.unit_index)) (sym m.there)
    (subst (λ l. Has (first_of l) (Part.UnitAt h.unit_index)) (sym m.left) (inl refl)) in
    record {
      how = h.how;
      unit_index = h.unit_index;
      marking = marking_at w v t h.unit_index _ (all Part.Function (inl refl)) (all (Part.UnitAt h.unit_index) (inr has)) m;
    }
happens_at (Transition.Check t p) w v f all h =
    record {
      later = h.later;
      waiting = waiting_at w v t _ (all Part.Function (inl refl)) h.waiting;
      unit = h.unit;
      there = sym (all (Part.UnitAt p.unit) (inr (inl refl))) ∙ h.there;
      clear = h.clear;
    }
happens_at (Transition.Respond c r xs) w v f all h =
    let q = c.ticket.queue in
    let m = all Part.Memory (inr (inr (inl refl))) in
    let n = ring_there w v q h.queue (all (Part.Ring q) (inr (inl refl))) h.there in
    record {
      waiting = waiting_at w v c.ticket _ (all Part.Function (inl refl)) h.waiting;
      chain = h.chain;
      response = h.response;
      queue = n.0;
      there = n.1;
      writes = h.writes ∙ ap (λ z. answer_writes z c _) (sym n.2);
      seen = seen_at w v xs f m h.seen;
    }
happens_at (Transition.Hard p jobs) w v f all h =
    record {
      unit = h.unit;
      there = sym (all (Part.UnitAt p.unit) (inl refl)) ∙ h.there;
      before = h.before;
      releases = h.releases;
      seat = h.seat;
      seat_there =
          subst (λ (z : Fixed). slice_get v.seats z.workers ≡ Some h.seat) f
          (sym (all (Part.SeatAt w.workers) (inr (inl refl))) ∙ h.seat_there);
    }
happens_at (Transition.Resize unit_index blocks) w v f all h =
    record { unit = h.unit; there = sym (all (Part.UnitAt unit_index) (inl refl)) ∙ h.there; may = h.may }
happens_at (Transition.Deal unit_index x) w v f all h =
    record { unit = h.unit; there = sym (all (Part.UnitAt unit_index) (inl refl)) ∙ h.there; may = h.may }
happens_at (Transition.Give e c xs) w v f all h =
    let q = c.ticket.queue in
    let m = all Part.Memory (inr (inr (inr (inl refl)))) in
    let n = ring_there w v q h.queue (all (Part.Ring q) (inr (inr (inl refl)))) h.there in
    record {
      later = h.later;
      waits = sym (all Part.Waiting (inr (inl refl))) ∙ h.waits;
      more = h.more;
      held = sym (all Part.Buffers (inl refl)).0 ∙ h.held;
      queue = n.0;
      there = n.1;
      writes = h.writes ∙ ap (λ z. answer_writes z c _) (sym n.2);
      seen = seen_at w v xs f m h.seen;
    }
happens_at (Transition.Miss e) w v f all h =
    record {
      later = h.later;
      waits = sym (all Part.Waiting (inr (inl refl))) ∙ h.waits;
      none = sym (all Part.Buffers (inl refl)).0 ∙ h.none;
    }
happens_at (Transition.Idle e) w v f all h = h
