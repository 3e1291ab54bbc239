use Rattle.std.proofs.Common.{◌≡◌, ◌/◌, ◌++◌, ◌∷◌, ◌∙◌, [], refl, arith, rules}
use Rattle.std.proofs.lemmas.Bool.Decides.{nat_tests}
use Rattle.ring_core.specs.Walk.{part_of}
use Rattle.ring_core.specs.Packed.{packed_table}
use Rattle.ring_core.specs.declared.run.Run.{Run}
use Rattle.ring_core.proofs.Walking.{entries_walk, walked_start, walked_more, walked_end, walked_first, walked_wrong}
use Rattle.packed_ring.proofs.walk.walk_table.Goals as goal

pub along-init : goal.along-init
along-init g c =
    record {
      size = refl;
      stays = λ m s. s;
      stores = refl;
      reading = c.requires.reading;
      on = λ m s. rw c.anew-before.ensures
          (walked_start (packed_table m c.args.named) (c.args.named.len / 16) (entries_walk m c.args.named) c.args.first c.args.draft c.requires.some c.requires.total);
      is = c.requires.is;
    }

pub returns-in-Err-clause-walked : goal.returns-in-Err-clause-walked
returns-in-Err-clause-walked g c = λ m s.
    let sized = g.met.M.Memory.sized c.along.memory m s in
    walked_wrong (packed_table m c.args.named) (c.args.named.len / 16) (entries_walk m c.args.named) c.args.first c.args.draft c.along.position c.along.before c.along.draft c.along.d
    (c.along.invariant.on m s) (c.along.invariant.is m s) c.in-Err.fault (rw (c.size-bytes.ensures.size, ← sized) at c.in-Err.ensures)

pub returns-then-is_err-clause-walked : goal.returns-then-is_err-clause-walked
returns-then-is_err-clause-walked g c = λ m s.
    let sized = g.met.M.Memory.sized c.along.memory m s in
    walked_first (packed_table m c.args.named) (c.args.named.len / 16) (entries_walk m c.args.named) c.args.first c.args.draft c.along.position c.along.before c.along.draft c.along.d
    (c.along.invariant.on m s) (c.along.invariant.is m s) (rw (c.size-bytes.ensures.size, ← sized) at c.in_default.ensures)

pub returns-then-before-entries-clause-walked : goal.returns-then-before-entries-clause-walked
returns-then-before-entries-clause-walked g c = λ m s.
    let sized = g.met.M.Memory.sized c.along.memory m s in
    let pushed : c.push.new.self ≡ c.along.draft ++ part_of c.along.d ∷ [] = search rules in
    let run : Run = record { last = c.along.d; before = c.along.before; draft = c.along.draft } in (
      run,
      walked_end (packed_table m c.args.named) (c.args.named.len / 16) (entries_walk m c.args.named) c.args.first c.args.draft c.along.position c.along.before c.along.draft c.along.d
          (c.along.invariant.on m s) (c.along.invariant.is m s) run refl refl refl (rw (c.size-bytes.ensures.size, ← sized) at c.in_default.ensures) (grind (arith, nat_tests)),
      pushed,
    )

pub try_entry_at-requires-clause-inside : goal.try_entry_at-requires-clause-inside
try_entry_at-requires-clause-inside g c =
    let on = c.along.invariant.on c.size-bytes.ensures.some.0 c.size-bytes.ensures.some.1 in
    omega (arith, on.counted, c.if-before-entries.false, c.requires.lies, c.along.invariant.size)

pub returns-in_default-try_entry_at-clause-walked : goal.returns-in_default-try_entry_at-clause-walked
returns-in_default-try_entry_at-clause-walked g c = λ m s.
    let s₀ = c.try_entry_at.ensures.stays m s in
    let sized = g.met.M.Memory.sized c.along.memory m s₀ in
    walked_first (packed_table m c.args.named) (c.args.named.len / 16) (entries_walk m c.args.named) c.args.first c.args.draft c.along.position c.along.before c.along.draft c.along.d
    (c.along.invariant.on m s₀) (c.along.invariant.is m s₀) (rw (c.size-bytes.ensures.size, ← sized) at c.in_default.ensures)

pub along-preserved : goal.along-preserved
along-preserved g c =
    let pushed : c.push.new.self ≡ c.along.draft ++ part_of c.along.d ∷ [] = search rules in
    record {
      size = c.try_entry_at.ensures.size ∙ c.along.invariant.size;
      stays = λ m s. c.along.invariant.stays m (c.try_entry_at.ensures.stays m s);
      stores = c.try_entry_at.ensures.stores ∙ c.along.invariant.stores;
      reading = c.try_entry_at.ensures.reading;
      on = λ m s.
          let s₀ = c.try_entry_at.ensures.stays m s in
          let sized = g.met.M.Memory.sized c.along.memory m s₀ in
          rw (pushed, c.with-before.ensures)
          (walked_more (packed_table m c.args.named) (c.args.named.len / 16) (entries_walk m c.args.named) c.args.first c.args.draft c.along.position c.along.before c.along.draft c.along.d
          (c.along.invariant.on m s₀) (c.along.invariant.is m s₀) (rw (c.size-bytes.ensures.size, ← sized) at c.in_default.ensures) (grind (arith, nat_tests)));
      is = λ m s. c.in-Ok.ensures.descriptor m s;
    }

pub unreachable-requires : goal.unreachable-requires
unreachable-requires g c =
    let on = c.along.invariant.on c.size-bytes-2.ensures.some.0 c.size-bytes-2.ensures.some.1 in
    omega (arith, on.left, c.along-test.false)
