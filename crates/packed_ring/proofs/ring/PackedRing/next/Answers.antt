use Rattle.packed_ring.proofs.Fit.{fault_found}
use Rattle.packed_ring.proofs.ring.PackedRing.next.Goals as goal

pub returns-in_default-clause-finds : goal.returns-in_default-clause-finds
returns-in_default-clause-finds g c = λ m s.
    let some = c.requires.some m (c.fault_without_room.ensures.stays m s) in
    let f = c.fault_without_room.ensures.fails m s in
    fault_found c.args.self.now m c.fault_without_room.result some
    (rw (c.layout-layout.ensures, c.available_place-next.ensures, c.features.ensures, c.draft.ensures.same, c.self.view_is) at f)
