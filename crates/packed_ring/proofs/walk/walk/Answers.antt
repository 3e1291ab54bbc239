use Rattle.std.proofs.Common.{◌≡◌, ◌+◌, ◌++◌, ◌∷◌, ◌∙◌, [], arith, rules, mod-lt}
use Rattle.ring_core.specs.Walk.{nothing_before, part_of}
use Rattle.ring_core.specs.Packed.{packed_slots, packed_table}
use Rattle.ring_core.specs.declared.fault.RingFault.TheVariants.{NoMemory}
use Rattle.ring_core.proofs.Walking.{packed_walk, walked_start, walked_more, walked_first, walked_wrong, ring_fails}
use Rattle.packed_ring.proofs.BySlot.{as_packed, at_slot, slot_moves, last_alone, named_lies, named_fails, named_ends}
use Rattle.packed_ring.proofs.walk.walk.Goals as goal

pub in_slot-d-requires-clause-there : goal.in_slot-d-requires-clause-there
in_slot-d-requires-clause-there g c = rw c.slot_after-slot.ensures (mod-lt c.args.passed c.requires.some)

pub along-init : goal.along-init
along-init g c =
    let none : c.args.passed + 0 ≡ c.args.passed = omega arith in
    record {
      size = c.in_slot-d.ensures.size;
      stays = c.in_slot-d.ensures.stays;
      stores = c.in_slot-d.ensures.stores;
      reading = c.in_slot-d.ensures.reading;
      on = λ m s. rw (c.requires.empty, c.nothing-before.ensures)
          (walked_start (packed_slots c.args.features m c.args.layout.now c.args.passed) c.args.layout.now.size (packed_walk c.args.features m c.args.layout.now c.args.passed) nothing_before [] c.requires.some (omega arith));
      is = c.in_slot-d.ensures.descriptor;
      slot = rw none c.slot_after-slot.ensures;
    }

pub returns-in-Err-clause-walked : goal.returns-in-Err-clause-walked
returns-in-Err-clause-walked g c = λ m s.
    let sized = g.met.M.Memory.sized c.along.memory m s in
    let on = c.along.invariant.on m s in
    let is = at_slot c.args.layout.now m c.args.passed c.along.step c.along.slot c.along.d c.along.invariant.slot (c.along.invariant.is m s) in
    as_packed c.args.features m c.args.layout.now c.args.passed c.in-Err.fault (ring_fails (packed_slots c.args.features m c.args.layout.now c.args.passed) (packed_table m) c.in-Err.fault
    (walked_wrong (packed_slots c.args.features m c.args.layout.now c.args.passed) c.args.layout.now.size (packed_walk c.args.features m c.args.layout.now c.args.passed) nothing_before [] c.along.step c.along.before c.along.draft c.along.d
    on is c.in-Err.fault (rw (c.size-bytes.ensures.size, ← sized) at c.in-Err.ensures)))

pub try_entry_at-requires-clause-inside : goal.try_entry_at-requires-clause-inside
try_entry_at-requires-clause-inside g c =
    let m = c.size-bytes-then-is_indirect.ensures.some.0 in
    let s = c.size-bytes-then-is_indirect.ensures.some.1 in
    let sized = g.met.M.Memory.sized c.along.memory m s in
    let on = c.along.invariant.on m s in
    let is = at_slot c.args.layout.now m c.args.passed c.along.step c.along.slot c.along.d c.along.invariant.slot (c.along.invariant.is m s) in
    let lies = named_lies c.args.features m c.args.layout.now c.args.passed c.along.step c.along.before c.along.draft c.along.d on is (rw (c.size-bytes.ensures.size, ← sized) at c.in_default.ensures) (rw c.is_indirect.ensures at c.if-is_indirect.true) in
    omega (arith, lies.0, lies.1, sized)

pub returns-in_default-try_entry_at-clause-walked : goal.returns-in_default-try_entry_at-clause-walked
returns-in_default-try_entry_at-clause-walked g c = λ m s₂.
    let s = c.try_entry_at.ensures.stays m s₂ in
    let sized = g.met.M.Memory.sized c.along.memory m s in
    let on = c.along.invariant.on m s in
    let is = at_slot c.args.layout.now m c.args.passed c.along.step c.along.slot c.along.d c.along.invariant.slot (c.along.invariant.is m s) in
    as_packed c.args.features m c.args.layout.now c.args.passed NoMemory (ring_fails (packed_slots c.args.features m c.args.layout.now c.args.passed) (packed_table m) NoMemory
    (walked_first (packed_slots c.args.features m c.args.layout.now c.args.passed) c.args.layout.now.size (packed_walk c.args.features m c.args.layout.now c.args.passed) nothing_before [] c.along.step c.along.before c.along.draft c.along.d on is (rw (c.size-bytes.ensures.size, ← sized) at c.in_default.ensures)))

pub walk_table-requires-clause-total : goal.walk_table-requires-clause-total
walk_table-requires-clause-total g c =
    let m = c.size-bytes-then-is_indirect.ensures.some.0 in
    let s = c.size-bytes-then-is_indirect.ensures.some.1 in
    (c.along.invariant.on m s).bounded

pub walk_table-requires-clause-some : goal.walk_table-requires-clause-some
walk_table-requires-clause-some g c =
    let m = c.size-bytes-then-is_indirect.ensures.some.0 in
    let s = c.size-bytes-then-is_indirect.ensures.some.1 in
    let sized = g.met.M.Memory.sized c.along.memory m s in
    let on = c.along.invariant.on m s in
    let is = at_slot c.args.layout.now m c.args.passed c.along.step c.along.slot c.along.d c.along.invariant.slot (c.along.invariant.is m s) in
    (named_lies c.args.features m c.args.layout.now c.args.passed c.along.step c.along.before c.along.draft c.along.d on is (rw (c.size-bytes.ensures.size, ← sized) at c.in_default.ensures) (rw c.is_indirect.ensures at c.if-is_indirect.true)).1

pub walk_table-requires-clause-lies : goal.walk_table-requires-clause-lies
walk_table-requires-clause-lies g c =
    let m = c.size-bytes-then-is_indirect.ensures.some.0 in
    let s = c.size-bytes-then-is_indirect.ensures.some.1 in
    let sized = g.met.M.Memory.sized c.along.memory m s in
    let on = c.along.invariant.on m s in
    let is = at_slot c.args.layout.now m c.args.passed c.along.step c.along.slot c.along.d c.along.invariant.slot (c.along.invariant.is m s) in
    rw (c.try_entry_at.ensures.size, ← sized) (named_lies c.args.features m c.args.layout.now c.args.passed c.along.step c.along.before c.along.draft c.along.d on is (rw (c.size-bytes.ensures.size, ← sized) at c.in_default.ensures) (rw c.is_indirect.ensures at c.if-is_indirect.true)).0

pub returns-in-Err-walk_table-clause-walked : goal.returns-in-Err-walk_table-clause-walked
returns-in-Err-walk_table-clause-walked g c = λ m s₂.
    let s = c.try_entry_at.ensures.stays m (c.walk_table.ensures.stays m s₂) in
    let sized = g.met.M.Memory.sized c.along.memory m s in
    let on = c.along.invariant.on m s in
    let is = at_slot c.args.layout.now m c.args.passed c.along.step c.along.slot c.along.d c.along.invariant.slot (c.along.invariant.is m s) in
    named_fails c.args.features m c.args.layout.now c.args.passed c.along.step c.along.before c.along.draft c.along.d on is (rw (c.size-bytes.ensures.size, ← sized) at c.in_default.ensures) (rw c.is_indirect.ensures at c.if-is_indirect.true) c.in-Err-walk_table.fault (c.in-Err-walk_table.ensures.walked m s₂)

pub returns-in-Ok-walk_table-clause-walked : goal.returns-in-Ok-walk_table-clause-walked
returns-in-Ok-walk_table-clause-walked g c = λ m s₂.
    let s = c.try_entry_at.ensures.stays m (c.walk_table.ensures.stays m s₂) in
    let sized = g.met.M.Memory.sized c.along.memory m s in
    let on = c.along.invariant.on m s in
    let is = at_slot c.args.layout.now m c.args.passed c.along.step c.along.slot c.along.d c.along.invariant.slot (c.along.invariant.is m s) in
    named_ends c.args.features m c.args.layout.now c.args.passed c.along.step c.along.before c.along.draft c.along.d on is (rw (c.size-bytes.ensures.size, ← sized) at c.in_default.ensures) (rw c.is_indirect.ensures at c.if-is_indirect.true) c.in-Ok-walk_table.draft (c.in-Ok-walk_table.ensures.walked m s₂)

pub returns-then-is_err-clause-walked : goal.returns-then-is_err-clause-walked
returns-then-is_err-clause-walked g c = λ m s.
    let sized = g.met.M.Memory.sized c.along.memory m s in
    let on = c.along.invariant.on m s in
    let is = at_slot c.args.layout.now m c.args.passed c.along.step c.along.slot c.along.d c.along.invariant.slot (c.along.invariant.is m s) in
    as_packed c.args.features m c.args.layout.now c.args.passed NoMemory (ring_fails (packed_slots c.args.features m c.args.layout.now c.args.passed) (packed_table m) NoMemory
    (walked_first (packed_slots c.args.features m c.args.layout.now c.args.passed) c.args.layout.now.size (packed_walk c.args.features m c.args.layout.now c.args.passed) nothing_before [] c.along.step c.along.before c.along.draft c.along.d on is (rw (c.size-bytes.ensures.size, ← sized) at c.in_default.ensures)))

pub returns-then-not-goes_on-clause-walked : goal.returns-then-not-goes_on-clause-walked
returns-then-not-goes_on-clause-walked g c = λ m s.
    let sized = g.met.M.Memory.sized c.along.memory m s in
    let on = c.along.invariant.on m s in
    let is = at_slot c.args.layout.now m c.args.passed c.along.step c.along.slot c.along.d c.along.invariant.slot (c.along.invariant.is m s) in
    let pushed : c.push.new.self ≡ c.along.draft ++ part_of c.along.d ∷ [] = search rules in
    rw pushed
    (last_alone c.args.features m c.args.layout.now c.args.passed c.along.step c.along.before c.along.draft c.along.d on is (rw (c.size-bytes.ensures.size, ← sized) at c.in_default.ensures) (rw c.goes_on.ensures at c.if-not-goes_on.true) (rw c.is_indirect.ensures at c.if-is_indirect.false))

pub along-preserved : goal.along-preserved
along-preserved g c =
    let pushed : c.push.new.self ≡ c.along.draft ++ part_of c.along.d ∷ [] = search rules in
    record {
      size = c.try_in_slot.ensures.size ∙ c.along.invariant.size;
      stays = λ m s. c.along.invariant.stays m (c.try_in_slot.ensures.stays m s);
      stores = c.try_in_slot.ensures.stores ∙ c.along.invariant.stores;
      reading = c.try_in_slot.ensures.reading;
      on = λ m s₂.
          let s = c.try_in_slot.ensures.stays m s₂ in
          let sized = g.met.M.Memory.sized c.along.memory m s in
          let on = c.along.invariant.on m s in
          let is = at_slot c.args.layout.now m c.args.passed c.along.step c.along.slot c.along.d c.along.invariant.slot (c.along.invariant.is m s) in
          rw (pushed, c.with-before.ensures)
          (walked_more (packed_slots c.args.features m c.args.layout.now c.args.passed) c.args.layout.now.size (packed_walk c.args.features m c.args.layout.now c.args.passed) nothing_before [] c.along.step c.along.before c.along.draft c.along.d
          on is (rw (c.size-bytes.ensures.size, ← sized) at c.in_default.ensures) (rw c.goes_on.ensures at c.if-not-goes_on.false));
      is = λ m s. c.in-Ok-try_in_slot.ensures.descriptor m s;
      slot = c.slot_behind-slot.ensures ∙ slot_moves c.args.layout.now.size c.args.passed c.along.step c.along.slot c.along.invariant.slot;
    }

pub returns-in-Ok-walk_table-clause-stays : goal.returns-in-Ok-walk_table-clause-stays
returns-in-Ok-walk_table-clause-stays g c = λ m s. c.along.invariant.stays m (c.try_entry_at.ensures.stays m (c.walk_table.ensures.stays m s))

pub returns-in-Err-walk_table-clause-stays : goal.returns-in-Err-walk_table-clause-stays
returns-in-Err-walk_table-clause-stays g c = λ m s. c.along.invariant.stays m (c.try_entry_at.ensures.stays m (c.walk_table.ensures.stays m s))

pub returns-in_default-try_in_slot-clause-walked : goal.returns-in_default-try_in_slot-clause-walked
returns-in_default-try_in_slot-clause-walked g c = λ m s₂.
    let s = c.try_in_slot.ensures.stays m s₂ in
    let sized = g.met.M.Memory.sized c.along.memory m s in
    let on = c.along.invariant.on m s in
    let is = at_slot c.args.layout.now m c.args.passed c.along.step c.along.slot c.along.d c.along.invariant.slot (c.along.invariant.is m s) in
    as_packed c.args.features m c.args.layout.now c.args.passed NoMemory (ring_fails (packed_slots c.args.features m c.args.layout.now c.args.passed) (packed_table m) NoMemory
    (walked_first (packed_slots c.args.features m c.args.layout.now c.args.passed) c.args.layout.now.size (packed_walk c.args.features m c.args.layout.now c.args.passed) nothing_before [] c.along.step c.along.before c.along.draft c.along.d on is (rw (c.size-bytes.ensures.size, ← sized) at c.in_default.ensures)))
