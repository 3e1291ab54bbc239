use Rattle.std.proofs.Common.{◌≡◌, ◌+◌, ℕ, List, [], arith}
use Rattle.ring_core.specs.Walk.{nothing_before}
use Rattle.ring_core.specs.Packed.{slot_at, packed_slots, packed_table}
use Rattle.ring_core.specs.declared.layout.Layout.{Layout}
use Rattle.ring_core.specs.declared.descriptor.Descriptor.{Descriptor}
use Rattle.ring_core.proofs.Walking.{packed_walk, walked_start, walked_first, walked_wrong, ring_fails}
use Rattle.ring_core.specs.declared.fault.RingFault.TheVariants.{NoMemory}
use Rattle.packed_ring.proofs.BySlot.{as_packed}
use Rattle.packed_ring.proofs.walk.fault_without_room.Goals as goal

-- the first slot, as one that no other stands before
none_before : (l : Layout) (m : List ℕ) (t : ℕ) (d : Descriptor) → d ≡ slot_at l m t → d ≡ slot_at l m (t + 0)
none_before l m t d is = let e : t + 0 ≡ t = omega arith in rw e is

pub returns-in-Ok-clause-fails : goal.returns-in-Ok-clause-fails
returns-in-Ok-clause-fails g c = λ m s.
    let sized = g.met.M.Memory.sized c.args.memory.now m (c.descriptor_at-first.ensures.stays m s) in
    let is = c.descriptor_at-first.ensures.descriptor m s in
    as_packed c.args.features m c.args.layout.now c.args.passed NoMemory (walked_first (packed_slots c.args.features m c.args.layout.now c.args.passed) c.args.layout.now.size (packed_walk c.args.features m c.args.layout.now c.args.passed) nothing_before [] 0 nothing_before [] c.descriptor_at-first.result
    (walked_start (packed_slots c.args.features m c.args.layout.now c.args.passed) c.args.layout.now.size (packed_walk c.args.features m c.args.layout.now c.args.passed) nothing_before [] c.requires.some (omega arith))
    (none_before c.args.layout.now m c.args.passed c.descriptor_at-first.result is)
    (rw (c.size-bytes.ensures.size, ← sized, c.nothing-before.ensures) at c.in-Ok.ensures))

pub returns-in-Err-clause-fails : goal.returns-in-Err-clause-fails
returns-in-Err-clause-fails g c = λ m s.
    let sized = g.met.M.Memory.sized c.args.memory.now m (c.descriptor_at-first.ensures.stays m s) in
    let is = c.descriptor_at-first.ensures.descriptor m s in
    as_packed c.args.features m c.args.layout.now c.args.passed c.in-Err.fault (ring_fails (packed_slots c.args.features m c.args.layout.now c.args.passed) (packed_table m) c.in-Err.fault
    (walked_wrong (packed_slots c.args.features m c.args.layout.now c.args.passed) c.args.layout.now.size (packed_walk c.args.features m c.args.layout.now c.args.passed) nothing_before [] 0 nothing_before [] c.descriptor_at-first.result
    (walked_start (packed_slots c.args.features m c.args.layout.now c.args.passed) c.args.layout.now.size (packed_walk c.args.features m c.args.layout.now c.args.passed) nothing_before [] c.requires.some (omega arith))
    (none_before c.args.layout.now m c.args.passed c.descriptor_at-first.result is) c.in-Err.fault
    (rw (c.size-bytes.ensures.size, ← sized, c.nothing-before.ensures) at c.in-Err.ensures)))
