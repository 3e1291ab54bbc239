use Rattle.std.proofs.Common.{◌≡◌, ◌||◌, ◌∙◌, ℕ, true, false, Ok, Err, List, [], ap, sym, refl}
use Rattle.device_model.specs.Parts.{IsSeen, is_short}
use Rattle.device_model.specs.Transitions.{Transition}
use Rattle.ring_core.specs.Writes.{Write, stores_of}
use Rattle.phases.specs.Queue.{with_slot}
use Rattle.phases.specs.Slots.{slot_of}
use Rattle.virtqueue.specs.Queue.{BareQueue}
use Rattle.phases.specs.Inner.EventsInMemory.{FetchesEventIn, TakesBuffer}
use Rattle.phases.proofs.Behind.{each_read, read_once}
use Rattle.phases.specs.Inner.Stored.{spent_writes}
use Rattle.phases.proofs.Stored.{none_stored}
use Rattle.phases.proofs.Buffers.{buffer_taken, buffer_alike, broken_at_port}
use Rattle.phases.proofs.raising.phase_fetch_event_in.Goals as goal

pub returns-in-Ok-Broke-clause-fetches : goal.returns-in-Ok-Broke-clause-fetches
returns-in-Ok-Broke-clause-fetches g c =
    let old = c.args.queue.now in
    let new = c.fetch_at_port.new.queue in
    let s = slot_of c.args.slot.now in
    let p = c.args.port.now in
    let found_stores : g.M.Memory.Stores = g.M.Memory.stored c.args.memory.now in
    let stored : List Write → Type 0 = λ ws. g.M.Memory.stored c.fetch_at_port.new.memory ≡ g.M.Memory.storing found_stores (stores_of ws) in
    let none : stored [] = c.fetch_at_port.ensures.stores ∙ none_stored g.M.Memory.storing g.met.M.Memory.none found_stores [] refl in
    each_read g.M.Memory.shared (g.M.Memory.may_be c.args.memory.now) (g.M.Memory.may_be c.fetch_at_port.new.memory)
    (λ found left seen. FetchesEventIn g.M.Memory.shared stored (with_slot s old) found p (Ok true) (with_slot s new) left seen p)
    c.fetch_at_port.ensures.stays
    (λ m stood.
    let looks = c.in-Ok-Broke.ensures.looks m stood in
    let (event, free, looked) = rw c.in-Ok-Broke.field-0-is at looks in (
      event,
      free,
      (
        Transition.Break old.ring.queue looked.fault,
        event,
        broken_at_port g.M.Memory.shared old new m s p looked,
        none,
      ),
    ))

pub returns-in-Ok-Got-clause-fetches : goal.returns-in-Ok-Got-clause-fetches
returns-in-Ok-Got-clause-fetches g c = λ seen may.
    let old = c.args.queue.now in
    let fetched = c.in-Ok-Got.fetched in
    let s = slot_of c.args.slot.now in
    let p = c.args.port.now in
    let chain = fetched.chain in
    let b = is_short chain || p.missed in
    let ws : List Write = spent_writes b chain c.fetch_at_port.new.queue.ring in
    let found_stores : g.M.Memory.Stores = g.M.Memory.stored c.args.memory.now in
    let stored : List Write → Type 0 = λ ws. g.M.Memory.stored c.take_buffer.new.memory ≡ g.M.Memory.storing found_stores (stores_of ws) in
    let made : stored ws = c.take_buffer.ensures.stores ∙ ap (λ (s : g.M.Memory.Stores). g.M.Memory.storing s (stores_of ws)) c.fetch_at_port.ensures.stores in
    let (found, was, (left, is, takes)) = c.take_buffer.ensures.takes seen may in
    let looks = c.in-Ok-Got.ensures.looks found was in
    let (event, free, looked) = rw c.in-Ok-Got.field-0-is at looks in (
      found,
      c.fetch_at_port.ensures.stays found was,
      (
        left,
        is,
        (
          event,
          free,
          buffer_taken old c.fetch_at_port.new.queue found fetched.chain fetched.bytes.items s p looked.0 looked.1 event
              g.M.Memory.shared stored c.take_buffer.new.queue left seen c.take_buffer.new.port b refl is takes made,
        ),
      ),
    )

pub returns-in-Ok-Got-clause-once : goal.returns-in-Ok-Got-clause-once
returns-in-Ok-Got-clause-once g c =
    let shared = g.M.Memory.shared in
    let read = c.fetch_at_port.new.memory in
    let old = c.args.queue.now in
    let lent = c.fetch_at_port.new.queue in
    let q' = c.take_buffer.new.queue in
    let fetched = c.in-Ok-Got.fetched in
    let s = slot_of c.args.slot.now in
    let p = c.args.port.now in
    let p' = c.take_buffer.new.port in
    let chain = fetched.chain in
    let b = is_short chain || p.missed in
    let ws : List Write = spent_writes b chain lent.ring in
    let found_stores : g.M.Memory.Stores = g.M.Memory.stored c.args.memory.now in
    let stored : List Write → Type 0 = λ ws. g.M.Memory.stored c.take_buffer.new.memory ≡ g.M.Memory.storing found_stores (stores_of ws) in
    let made : stored ws = c.take_buffer.ensures.stores ∙ ap (λ (s : g.M.Memory.Stores). g.M.Memory.storing s (stores_of ws)) c.fetch_at_port.ensures.stores in
    let does : (found left seen : List ℕ) → g.M.Memory.may_be read found → IsSeen shared left seen
    → TakesBuffer b chain lent found p q' left seen p'
    → FetchesEventIn shared stored (with_slot s old) found p (Ok true) (with_slot s q') left seen p' =
    λ found left seen was is takes.
    let looks = c.in-Ok-Got.ensures.looks found was in
    let (event, free, looked) = rw c.in-Ok-Got.field-0-is at looks in (
      event,
      free,
      buffer_taken old lent found chain fetched.bytes.items s p looked.0 looked.1 event shared stored q' left seen p' b refl is
          takes made,
    ) in
    record {
      read = read;
      stays = c.fetch_at_port.ensures.stays;
      each_seen = λ seen may.
          let (found, was, (left, is, takes)) = c.take_buffer.ensures.takes seen may in
          (found, was, (left, is, does found left seen was is takes));
      each_found = λ m was.
          let any = c.size-bytes.ensures.some in
          let (found, stood, (left, is, takes)) = c.take_buffer.ensures.takes any.0 any.1 in
          let long = g.met.M.Memory.sized read found stood ∙ sym (g.met.M.Memory.sized read m was) in
          let again = buffer_alike shared b chain lent found m p q' left any.0 p'
          (λ off. g.met.M.Memory.one read found m off stood was) long is takes in
          (again.0, again.1, again.2, does m again.0 again.1 was again.2 again.3);
    }

pub returns-in-Ok-Broke-clause-once : goal.returns-in-Ok-Broke-clause-once
returns-in-Ok-Broke-clause-once g c =
    let shared = g.M.Memory.shared in
    let old = c.args.queue.now in
    let new = c.fetch_at_port.new.queue in
    let x = c.args.memory.now in
    let y = c.fetch_at_port.new.memory in
    let s = slot_of c.args.slot.now in
    let p = c.args.port.now in
    let stored : List Write → Type 0 = λ ws. g.M.Memory.stored y ≡ g.M.Memory.storing (g.M.Memory.stored x) (stores_of ws) in
    let none : stored [] = c.fetch_at_port.ensures.stores ∙ none_stored g.M.Memory.storing g.met.M.Memory.none (g.M.Memory.stored x) [] refl in
    read_once shared g.M.Memory.may_be x y
    (λ found left seen. FetchesEventIn shared stored (with_slot s old) found p (Ok true) (with_slot s new) left seen p)
    c.fetch_at_port.ensures.stays
    (λ m stood.
    let looks = c.in-Ok-Broke.ensures.looks m stood in
    let (event, free, looked) = rw c.in-Ok-Broke.field-0-is at looks in (
      event,
      free,
      (
        Transition.Break old.ring.queue looked.fault,
        event,
        broken_at_port shared old new m s p looked,
        none,
      ),
    ))

pub returns-in-Ok-Idle-clause-once : goal.returns-in-Ok-Idle-clause-once
returns-in-Ok-Idle-clause-once g c =
    let shared = g.M.Memory.shared in
    let old = c.args.queue.now in
    let new = c.fetch_at_port.new.queue in
    let x = c.args.memory.now in
    let y = c.fetch_at_port.new.memory in
    let s = slot_of c.args.slot.now in
    let p = c.args.port.now in
    let stored : List Write → Type 0 = λ ws. g.M.Memory.stored y ≡ g.M.Memory.storing (g.M.Memory.stored x) (stores_of ws) in
    let none : stored [] = c.fetch_at_port.ensures.stores ∙ none_stored g.M.Memory.storing g.met.M.Memory.none (g.M.Memory.stored x) [] refl in
    read_once shared g.M.Memory.may_be x y
    (λ found left seen. FetchesEventIn shared stored (with_slot s old) found p (Ok false) (with_slot s new) left seen p)
    c.fetch_at_port.ensures.stays
    (λ m stood.
    let looks = c.in-Ok-Idle.ensures.looks m stood in
    let (same, idle) = rw c.in-Ok-Idle.field-0-is at looks in
    (record { queue = ap (λ (q : BareQueue). with_slot s q) same; memory = refl; sees = refl; port = refl }, idle, none))

pub returns-in-Err-clause-once : goal.returns-in-Err-clause-once
returns-in-Err-clause-once g c =
    let shared = g.M.Memory.shared in
    let old = c.args.queue.now in
    let new = c.fetch_at_port.new.queue in
    let x = c.args.memory.now in
    let y = c.fetch_at_port.new.memory in
    let s = slot_of c.args.slot.now in
    let p = c.args.port.now in
    let stored : List Write → Type 0 = λ ws. g.M.Memory.stored y ≡ g.M.Memory.storing (g.M.Memory.stored x) (stores_of ws) in
    let none : stored [] = c.fetch_at_port.ensures.stores ∙ none_stored g.M.Memory.storing g.met.M.Memory.none (g.M.Memory.stored x) [] refl in
    read_once shared g.M.Memory.may_be x y
    (λ found left seen. FetchesEventIn shared stored (with_slot s old) found p (Err c.in-Err.field-0) (with_slot s new) left seen p)
    c.fetch_at_port.ensures.stays
    (λ m stood.
    let (event, free, looked) = c.in-Err.ensures.looks m stood in (
      record { queue = ap (λ (q : BareQueue). with_slot s q) looked.1; memory = refl; sees = refl; port = refl },
      event,
      free,
      looked.0,
      none,
    ))
