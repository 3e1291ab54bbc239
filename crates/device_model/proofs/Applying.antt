-- Where a transition happens, its event applies.
use Rattle.std.proofs.Common.{◌≡◌, ◌≤◌, ℕ, List, Option, Some, None, refl, sym, subst, zero, suc, arith}
use Rattle.ring_core.specs.State.{RingState}
use Rattle.ring_core.specs.Offer.{Nothing, Found, Refused, OffersUnless}
use Rattle.ring_core.specs.declared.descriptor.Part.{Part}
use Rattle.ring_core.specs.declared.fault.RingFault.{RingFault}
use Rattle.ring_core.proofs.Exact.{offers_once}
use Rattle.device_model.specs.World.{PlainWorld}
use Rattle.device_model.specs.Parts.{PlainFetch}
use Rattle.device_model.specs.Events.{Event}
use Rattle.device_model.specs.Transitions.{Transition, event_of}
use Rattle.device_model.specs.Happens.{Happens}
use Rattle.device_model.specs.Event.Fetch.{IsOpenTo, Finds}
use Rattle.device_model.specs.Applies.{Applies}
use Rattle.device_model.specs.Event.Fetch.{MayFetch}

-- a queue other than the control queue is open
open_above : (w : PlainWorld) (i : ℕ) → 1 ≤ i → IsOpenTo w i
open_above w zero h = absurd (omega (arith, h))
open_above w (suc i) h = tt

-- the control queue is open where no function is
open_control : (w : PlainWorld) (i : ℕ) → i ≡ 0 → w.function ≡ None → IsOpenTo w i
open_control w i e h = subst (IsOpenTo w) (sym e) h

-- a chain is no fault, and neither is nothing
found_or_refused : {id slots : ℕ} {parts : List Part} {f : RingFault} → Found id slots parts ≡ Refused f → ⊥
found_or_refused e = cc

found_or_nothing : {id slots : ℕ} {parts : List Part} → Found id slots parts ≡ Nothing → ⊥
found_or_nothing e = cc

refused_or_nothing : {f : RingFault} → Refused f ≡ Nothing → ⊥
refused_or_nothing e = cc

-- a queue that offers a chain isn't broken
whole_found : (b : Option RingFault) (s : RingState) (m : List ℕ) (id slots : ℕ) (parts : List Part)
    → OffersUnless b s m (Found id slots parts) → b ≡ None
whole_found None s m id slots parts h = refl
whole_found (Some f) s m id slots parts h = absurd (found_or_refused h)

-- a queue from which a chain is taken may be fetched from
fetches : (w : PlainWorld) (f : PlainFetch) → Finds w f → IsOpenTo w f.chain.ticket.queue
    → MayFetch w f.chain.ticket.queue
fetches w f h o =
    let s = h.queue.ring in
    let c = f.chain in
    record {
      queue = h.queue;
      there = h.there;
      empty = h.empty;
      opened = o;
      whole = whole_found s.broken s w.memory c.id c.slots c.parts h.taken.offer;
      has_some = λ n. found_or_nothing (offers_once s w.memory (Found c.id c.slots c.parts) Nothing h.taken.offer n);
    }

-- what a transition found is what its event asks for
pub applies : (d : Transition) (w : PlainWorld) → Happens d w → Applies w (event_of d)
applies (Transition.Poke x) w h = h
applies (Transition.Arrive f x) w h =
    fetches w f h.finds (open_above w f.chain.ticket.queue (omega (arith, h.request)))
applies (Transition.Refuse f a) w h = fetches w f h.finds h.opened
applies (Transition.Open f g) w h =
    fetches w f h.finds (open_control w f.chain.ticket.queue h.control h.closed)
applies (Transition.Hold f) w h =
    fetches w f h.finds (open_above w f.chain.ticket.queue (omega (arith, h.event)))
applies (Transition.UseBuffer f xs) w h =
    fetches w f h.finds (open_above w f.chain.ticket.queue (omega (arith, h.event)))
applies (Transition.Break i n) w h =
    record {
      queue = h.queue;
      there = h.there;
      empty = h.empty;
      opened = h.opened;
      whole = h.whole;
      has_some = λ z.
          refused_or_nothing (offers_once h.queue.ring w.memory (Refused n) Nothing h.offered z);
    }
applies (Transition.Run x) w h = (x, (h.comes.queue, h.comes.there, h.comes.arrived))
applies (Transition.Park x) w h = (x, (h.comes.queue, h.comes.there, h.comes.arrived))
applies (Transition.EnterFull x) w h = (x, (h.comes.queue, h.comes.there, h.comes.arrived))
applies (Transition.EnterBusy x) w h = (x, (h.comes.queue, h.comes.there, h.comes.arrived))
applies (Transition.EnterStale x) w h = absurd h
applies (Transition.Direct c o xs) w h = (c, o, (h.queue, h.there, h.ready))
applies (Transition.Put k x) w h = record { job = x; rest = h.rest; seat = h.seat }
applies (Transition.Keep k x) w h = record { job = x; rest = h.rest; seat = h.seat }
applies (Transition.Take k from x) w h =
    record { worker = h.worker; seat = h.seat; from = from; job = x; rest = h.rest; handed_off = h.handed_off }
applies (Transition.Commit k x r) w h = (x, (h.holds.out, h.holds.seat))
applies (Transition.CommitBusy k x) w h = (x, (h.holds.out, h.holds.seat))
applies (Transition.CommitAborted k x why) w h = (x, (h.holds.out, h.holds.seat))
applies (Transition.CommitUnknown k x) w h = absurd h
applies (Transition.Defer k x) w h = (x, (h.holds.out, h.holds.seat))
applies (Transition.Withhold k x r) w h = (x, (h.holds.out, h.holds.seat))
applies (Transition.Conclude k x r) w h = (x, (h.holds.out, h.holds.seat))
applies Transition.Wake w h = h
applies (Transition.Resume k x) w h =
    record { worker = h.worker; free = h.free; job = x; rest = h.rest; first = h.first }
applies (Transition.Answer k x o xs) w h = (x, o, (h.out, h.seat))
applies (Transition.Leave k unit_index t jobs) w h = (unit_index, t, (h.holds.out, h.holds.seat))
applies (Transition.Mark t p m jobs) w h =
    let g = h.marking in
    record { opened = g.opened; there = g.there; unit_index = p.unit; later = g.later; left = g.left }
applies (Transition.Ask t unit_index rule b) w h =
    let g = h.marking in
    record { opened = g.opened; there = g.there; unit_index = unit_index; later = g.later; left = g.left }
applies (Transition.MarkRefused t) w h =
    let g = h.marking in
    record { opened = g.opened; there = g.there; unit_index = h.unit_index; later = g.later; left = g.left }
applies (Transition.Check t p) w h =
    let g = h.waiting in
    record {
      opened = g.opened;
      there = g.there;
      left = g.left;
      mark = p;
      later = h.later;
      still = g.still;
      unit = h.unit;
      unit_there = h.there;
      clear = h.clear;
    }
applies (Transition.Respond c r xs) w h =
    let g = h.waiting in
    record { opened = g.opened; there = g.there; left = g.left; still = g.still }
applies (Transition.Hard p jobs) w h = (h.unit, h.there)
applies (Transition.Resize unit_index blocks) w h = (h.unit, h.there, h.may)
applies (Transition.Deal unit_index x) w h = h
applies (Transition.Give e c xs) w h = (e, h.later, h.waits)
applies (Transition.Miss e) w h = (e, h.later, h.waits)
applies (Transition.Idle e) w h = absurd h

-- where an event doesn't apply, no transition of it happens
pub idles : (w : PlainWorld) (e : Event) → (Applies w e → ⊥) → (d : Transition) → event_of d ≡ e → Happens d w → ⊥
idles w e never d is h = never (subst (Applies w) is (applies d w h))
