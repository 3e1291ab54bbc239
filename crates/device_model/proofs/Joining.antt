-- What stands outside and what the lent part does are a transition that happens.
use Rattle.std.proofs.Common.{◌≡◌, ℕ, Some, sym, ◌∙◌, ap}
use Rattle.std.specs.Prelude.{slice_get}
use Rattle.ring_core.specs.declared.log.Ticket.{Ticket}
use Rattle.unit_model.specs.Jobs.{PlainJob}
use Rattle.task_mgmt.specs.declared.kind.Kind.{Kind}
use Rattle.task_mgmt.specs.declared.kind.Kind.TheVariants.{Marking, Querying}
use Rattle.unit_model.specs.Unit.{PlainUnit}
use Rattle.device_model.specs.Parts.{PlainFetch, Slot, Hand}
use Rattle.device_model.specs.World.{PlainQueue, PlainWorld, owner}
use Rattle.device_model.specs.Transitions.{Transition}
use Rattle.device_model.specs.Happens.{Happens}
use Rattle.device_model.specs.Event.Fetch.{Finds}
use Rattle.device_model.specs.Event.Enter.{Comes}
use Rattle.device_model.specs.Found.{HandAtUnit}
use Rattle.device_model.specs.Event.Mark.{IsMarking}
use Rattle.device_model.specs.Phases.{GivesChain, VisitsNext, StandsFor, LendsUnit, LendsQueue}
use Rattle.device_model.specs.Found.{SlotIs, HasSeat, HasHand}
use Rattle.device_model.proofs.Lists.{same}

slot_is : (w : PlainWorld) (i : ℕ) (s : Slot) (q : PlainQueue) → SlotIs w i s → slice_get w.queues i ≡ Some q
    → q.slot ≡ s
slot_is w i s q h at = ap (λ (z : PlainQueue). z.slot) (same (sym at ∙ h.1)) ∙ h.2

abbrev finds : (w : PlainWorld) (f : PlainFetch) (q : PlainQueue) → SlotIs w f.chain.ticket.queue Slot.Empty
    → slice_get w.queues f.chain.ticket.queue ≡ Some q → GivesChain q w.memory f → Finds w f
finds w f q s at o =
    record { queue = q; there = at; empty = slot_is w f.chain.ticket.queue Slot.Empty q s at; taken = o }

abbrev comes : (w : PlainWorld) (x : PlainJob) (u : PlainUnit) → SlotIs w x.chain.ticket.queue (Slot.Arrived x)
    → HasSeat w (owner w.workers x.chain.ticket.queue) → slice_get w.units x.unit ≡ Some u → Comes w x
comes w x u s k at =
    record {
      queue = s.0;
      there = s.1;
      arrived = s.2;
      unit = u;
      unit_there = at;
      seat = k.0;
      seat_there = k.1;
    }

abbrev holds : (w : PlainWorld) (k : ℕ) (hand : Hand) (unit_index : ℕ) (u : PlainUnit) → HasHand w k hand
    → slice_get w.units unit_index ≡ Some u → HandAtUnit w k hand unit_index
holds w k hand unit_index u s at = record { out = s.0; seat = s.1; unit = u; there = at }

abbrev marking : (w : PlainWorld) (t : Ticket) (unit_index : ℕ) (kind : Kind) (u : PlainUnit) → VisitsNext w t unit_index kind
    → slice_get w.units unit_index ≡ Some u → IsMarking w t unit_index kind
marking w t unit_index kind u s at =
    record {
      opened = s.opened;
      there = s.there;
      of = s.of;
      does = s.does;
      later = s.later;
      left = s.left;
      unit = u;
      unit_there = at;
    }

pub joins : (d : Transition) (w : PlainWorld) → StandsFor d w → LendsUnit d w → LendsQueue d w → Happens d w
joins (Transition.Poke x) w s u q = s
joins (Transition.Arrive f x) w s u q =
    record {
      finds = finds w f q.0 s.0 q.1 q.2.0;
      request = s.1;
      chain = q.2.1;
      ticket = q.2.2;
      decided = q.2.3;
      addressed = q.2.4;
    }
joins (Transition.Refuse f a) w s u q =
    record { finds = finds w f q.0 s.0 q.1 q.2.0; opened = s.1; kind = s.2; decided = q.2.1 }
joins (Transition.Open f g) w s u q =
    record { finds = finds w f q.0 s.0 q.1 q.2.0; closed = s.1; control = s.2; decided = q.2.1 }
joins (Transition.Hold f) w s u q = record { finds = finds w f q.0 s.0 q.1 q.2.0; event = s.1; decided = q.2.1 }
joins (Transition.UseBuffer f xs) w s u q =
    record { finds = finds w f q.0 s.0 q.1 q.2.0; event = s.1; decided = q.2.1; writes = q.2.2; seen = q.2.3 }
joins (Transition.Break i n) w s u q =
    record {
      queue = q.0;
      there = q.1;
      empty = slot_is w i Slot.Empty q.0 s.0 q.1;
      whole = q.2.0;
      opened = s.1;
      offered = q.2.1;
    }
joins (Transition.Run x) w s u q = record { comes = comes w x u.0 s.0 s.1 u.1; named = u.2.0; may = u.2.1; blocked = u.2.2 }
joins (Transition.Park x) w s u q = record { comes = comes w x u.0 s.0 s.1 u.1; named = u.2.0; may = u.2.1; blocked = u.2.2 }
joins (Transition.EnterFull x) w s u q =
    record { comes = comes w x u.0 s.0 s.1 u.1; named = u.2.0; may = u.2.1 }
joins (Transition.EnterBusy x) w s u q =
    record { comes = comes w x u.0 s.0 s.1 u.1; named = u.2.0; fresh = u.2.1 }
joins (Transition.Direct c o xs) w s u q =
    record {
      queue = q.0;
      there = q.1;
      ready = slot_is w c.ticket.queue (Slot.Direct c o) q.0 s q.1;
      writes = q.2.0;
      seen = q.2.1;
    }
joins (Transition.Put k x) w s u q = s
joins (Transition.Keep k x) w s u q = s
joins (Transition.Take k from x) w s u q = s
joins (Transition.Commit k x r) w s u q =
    record { holds = holds w k (Hand.Taken x) x.unit u.0 s u.1; may = u.2 }
joins (Transition.CommitBusy k x) w s u q =
    record { holds = holds w k (Hand.Taken x) x.unit u.0 s u.1; may = u.2.0; wants = u.2.1 }
joins (Transition.CommitAborted k x why) w s u q =
    record { holds = holds w k (Hand.Taken x) x.unit u.0 s u.1; alive = u.2.0; marked = u.2.1 }
joins (Transition.Defer k x) w s u q =
    record { holds = holds w k (Hand.Taken x) x.unit u.0 s u.1; entry = u.2.0; waits = u.2.1 }
joins (Transition.Withhold k x r) w s u q =
    record { holds = holds w k (Hand.Taken x) x.unit u.0 s u.1; may = u.2 }
joins (Transition.Conclude k x r) w s u q =
    record { holds = holds w k (Hand.Taken x) x.unit u.0 s u.1; may = u.2 }
joins Transition.Wake w s u q = s
joins (Transition.Resume k x) w s u q = s
joins (Transition.Answer k x o xs) w s u q =
    record { out = s.0; seat = s.1; queue = q.0; there = q.1; writes = q.2.0; seen = q.2.1 }
joins (Transition.Leave k unit_index t jobs) w s u q =
    record { holds = holds w k (Hand.Answered unit_index t) unit_index u.0 s u.1; may = u.2.0; enables = u.2.1 }
joins (Transition.Mark t p m jobs) w s u q =
    record {
      marking = marking w t p.unit (Marking m) u.0 s.0 u.1;
      before = u.2.0;
      releases = u.2.1;
      seat = s.1.0;
      seat_there = s.1.1;
    }
joins (Transition.Ask t unit_index rule b) w s u q =
    record { marking = marking w t unit_index (Querying rule) u.0 s u.1; is = u.2 }
joins (Transition.MarkRefused t) w s u q = s
joins (Transition.Check t p) w s u q = record { later = s.0; waiting = s.1; unit = u.0; there = u.1; clear = u.2 }
joins (Transition.Respond c r xs) w s u q =
    record {
      waiting = s.0.waiting;
      chain = s.0.chain;
      response = s.1;
      queue = q.0;
      there = q.1;
      writes = q.2.0;
      seen = q.2.1;
    }
joins (Transition.Hard p jobs) w s u q =
    record { unit = u.0; there = u.1; before = u.2.0; releases = u.2.1; seat = s.0; seat_there = s.1 }
joins (Transition.Resize unit_index blocks) w s u q = record { unit = u.0; there = u.1; may = u.2 }
joins (Transition.Deal unit_index x) w s u q = record { unit = u.0; there = u.1; may = u.2 }
joins (Transition.Give e c xs) w s u q =
    record {
      later = s.later;
      waits = s.waits;
      more = s.more;
      held = s.held;
      queue = q.0;
      there = q.1;
      writes = q.2.0;
      seen = q.2.1;
    }
joins (Transition.Miss e) w s u q = s
joins (Transition.EnterStale x) w s u q = absurd s
joins (Transition.CommitUnknown k x) w s u q = absurd s
joins (Transition.Idle e) w s u q = absurd s
