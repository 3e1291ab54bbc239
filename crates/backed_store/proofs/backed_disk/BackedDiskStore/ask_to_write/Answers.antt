use Rattle.backed_store.proofs.Progressing.{as-host}
use Rattle.backed_store.proofs.backed_disk.BackedDiskStore.ask_to_write.Goals as goal

pub invariant_of-self : goal.invariant_of-self
invariant_of-self c =
    record { fenced = as-host _ _ _ _ c.ask_beside-beside.ensures.host (as-host _ _ _ _ c.make_room_for-room.ensures.host c.args.self.now.fenced) }

pub returns-clause-ready : goal.returns-clause-ready
returns-clause-ready c = λ is b of. c.ask_beside-beside.ensures.ready (c.and.ensures.ready is).1 b of

pub returns-clause-asked : goal.returns-clause-asked
returns-clause-asked c = λ is b of. c.ask_beside-beside.ensures.asked (c.and.ensures.asked is).1 b of
