-- A fresh packed queue.
use Rattle.std.proofs.Common.{◌≡◌, ℕ, ◌+◌, ◌*◌, ◌<◌, ◌≤◌, ◌^◌, refl, arith, None}
use Rattle.std.proofs.lemmas.Grind.{common_steps}
use Rattle.std.proofs.lemmas.Bool.Decides.{nat_tests}
use Rattle.std.proofs.lemmas.List.{length-replicate}
use Rattle.ring_core.specs.State.{opening}
use Rattle.ring_core.proofs.Sound.{none_there}
use Rattle.packed_ring.specs.Inner.IsPacked.{IsPacked}
use Rattle.packed_ring.specs.Placement.{placement_fault}
use Rattle.ring_core.specs.declared.layout.Layout.{Layout}
use Rattle.ring_core.specs.declared.layout.Features.{Features}
use Rattle.ring_core.specs.declared.layout.Form.TheVariants.{Packed}

-- what follows where nothing is wrong with a layout
right_size : (m : ℕ) (l : Layout) → placement_fault m l ≡ None → (0 < l.size) × (l.size ≤ 32768)
right_size m l e =
    let a : 0 < l.size = grind (arith, common_steps, nat_tests) in
    let b : l.size ≤ 32768 = grind (arith, common_steps, nat_tests) in
    (a, b)

right_places : (m : ℕ) (l : Layout) → placement_fault m l ≡ None → (l.desc + 16 * l.size ≤ m) × (l.driver + 4 ≤ m) × (l.device + 4 ≤ m)
right_places m l e =
    let a : l.desc + 16 * l.size ≤ m = grind (arith, common_steps, nat_tests) in
    let b : l.driver + 4 ≤ m = grind (arith, common_steps, nat_tests) in
    let c : l.device + 4 ≤ m = grind (arith, common_steps, nat_tests) in
    (a, b, c)

pub fresh : (queue : ℕ) (l : Layout) (features : Features) (m ids : ℕ) → ids ≡ 65536 → placement_fault m l ≡ None → m ≤ 2 ^ 52
    → IsPacked (opening Packed queue l features m ids)
unfolding opening
fresh queue l features m ids all fine small =
    let size = right_size m l fine in
    let places = right_places m l fine in
    record { form = refl; some = size.0; most = size.1; ids = rw (length-replicate, all) refl; slots = places.0; driver = places.1; device = places.2; small = small; each_slots = λ id c e. absurd (let p = none_there ids id in cc); latest = omega arith; among = omega arith; within = omega arith }
