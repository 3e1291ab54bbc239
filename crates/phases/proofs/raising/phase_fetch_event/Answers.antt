use Rattle.std.proofs.Common.{◌≡◌, List, false}
use Rattle.guest_mem.specs.Stores.{all_stored}
use Rattle.ring_core.specs.Writes.{Write, stores_of}
use Rattle.phases.specs.Queue.{with_slot}
use Rattle.phases.specs.Slots.{slot_of}
use Rattle.phases.specs.Inner.EventsInMemory.{FetchesEventIn}
use Rattle.phases.proofs.Behind.{each_own}
use Rattle.phases.proofs.EventsOwn.{fetches_own}
use Rattle.phases.proofs.raising.phase_fetch_event.Goals as goal

pub returns-clause-fetches : goal.returns-clause-fetches
returns-clause-fetches c =
    let d = c.phase_fetch_event_in in
    let q = with_slot (slot_of c.args.slot.now) c.args.queue.now in
    let q' = with_slot (slot_of c.args.slot.now) d.new.queue in
    let stored : List Write → Type 0 = λ ws. d.new.memory ≡ all_stored c.args.memory.now (stores_of ws) in
    fetches_own stored q q' c.args.memory.now d.new.memory d.new.memory c.args.port.now d.new.port d.result
    (each_own c.args.memory.now d.new.memory
    (λ found left seen. FetchesEventIn false stored q found c.args.port.now d.result q' left seen d.new.port) d.ensures.fetches)
