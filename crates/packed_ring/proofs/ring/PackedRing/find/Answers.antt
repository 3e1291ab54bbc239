use Rattle.std.proofs.Common.{◌≡◌, true, rules, inr, Some}
use Rattle.ring_core.specs.Packed.{is_available, available_place, chain_wrong, PackedChain}
use Rattle.ring_core.specs.declared.fault.RingFault.TheVariants.{AlreadyOutstanding, RingOverrun}
use Rattle.packed_ring.proofs.Fit.{fault_found}
use Rattle.packed_ring.proofs.ring.PackedRing.find.Goals as goal

pub returns-then-is_outstanding-clause-finds : goal.returns-then-is_outstanding-clause-finds
returns-then-is_outstanding-clause-finds g c = λ m s.
    let asked = c.requires.some m (c.walk.ensures.stays m s) in
    let f = c.in-Ok.ensures.walked m s in
    let some : is_available c.args.self.now m ≡ true = asked in
    let chain : PackedChain c.args.self.now.features m c.args.self.now.layout (available_place c.args.self.now) c.in-Ok.found.id c.in-Ok.found.slots c.in-Ok.found.draft = search rules in
    let bad : chain_wrong c.args.self.now c.in-Ok.found.id c.in-Ok.found.slots ≡ Some AlreadyOutstanding = search rules in
    (some, inr (c.in-Ok.found.id, c.in-Ok.found.slots, c.in-Ok.found.draft, chain, bad))

pub returns-then-outstanding-found-clause-finds : goal.returns-then-outstanding-found-clause-finds
returns-then-outstanding-found-clause-finds g c = λ m s.
    let asked = c.requires.some m (c.walk.ensures.stays m s) in
    let f = c.in-Ok.ensures.walked m s in
    let some : is_available c.args.self.now m ≡ true = asked in
    let chain : PackedChain c.args.self.now.features m c.args.self.now.layout (available_place c.args.self.now) c.in-Ok.found.id c.in-Ok.found.slots c.in-Ok.found.draft = search rules in
    let bad : chain_wrong c.args.self.now c.in-Ok.found.id c.in-Ok.found.slots ≡ Some RingOverrun = search rules in
    (some, inr (c.in-Ok.found.id, c.in-Ok.found.slots, c.in-Ok.found.draft, chain, bad))

pub returns-in-Err-clause-finds : goal.returns-in-Err-clause-finds
returns-in-Err-clause-finds g c = λ m s.
    let asked = c.requires.some m (c.walk.ensures.stays m s) in
    let f = c.in-Err.ensures.walked m s in
    fault_found c.args.self.now m c.in-Err.fault asked (rw (c.layout-layout.ensures, c.available_place-next.ensures, c.features.ensures, c.self.view_is) at f)
