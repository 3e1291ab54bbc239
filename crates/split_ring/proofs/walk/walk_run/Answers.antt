use Rattle.std.proofs.Common.{◌≡◌, ◌++◌, ◌∷◌, ◌<◌, [], rules, refl, ◌∙◌, arith}
use Rattle.ring_core.specs.Walk.{part_of}
use Rattle.split_ring.proofs.Path.{right_next, path_start, path_more, path_end, path_first, path_wrong}
use Rattle.split_ring.proofs.walk.walk_run.Goals as goal

pub along-init : goal.along-init
along-init g c =
    record {
      size = refl;
      stays = λ m s. s;
      stores = refl;
      reading = c.requires.reading;
      on = λ m s. rw c.anew-before.ensures (path_start m c.args.table.now c.args.head c.args.first c.args.draft c.args.at_head (c.requires.is m s) c.requires.head c.requires.total);
    }

pub returns-in-Err-clause-walked : goal.returns-in-Err-clause-walked
returns-in-Err-clause-walked g c = λ m s.
    let sized = g.met.M.Memory.sized c.along.memory m s in
    path_wrong m c.args.table.now c.args.head c.args.first c.args.draft c.along._step c.along.before c.along.d c.along.draft (c.along.invariant.on m s) c.in-Err.fault (rw (c.size-bytes.ensures.size, ← sized) at c.in-Err.ensures)

pub returns-then-is_err-clause-walked : goal.returns-then-is_err-clause-walked
returns-then-is_err-clause-walked g c = λ m s.
    let sized = g.met.M.Memory.sized c.along.memory m s in
    path_first m c.args.table.now c.args.head c.args.first c.args.draft c.along._step c.along.before c.along.d c.along.draft (c.along.invariant.on m s) (rw (c.size-bytes.ensures.size, ← sized) at c.in_default.ensures)

pub returns-then-not-goes_on-clause-walked : goal.returns-then-not-goes_on-clause-walked
returns-then-not-goes_on-clause-walked g c = λ m s.
    let sized = g.met.M.Memory.sized c.along.memory m s in
    path_end m c.args.table.now c.args.head c.args.first c.args.draft c.along._step c.along.before c.along.d c.along.draft (c.along.invariant.on m s) _ refl refl refl (rw (c.size-bytes.ensures.size, ← sized) at c.in_default.ensures) (rw c.goes_on.ensures at c.if-not-goes_on.true)

pub try_descriptor_at-requires-clause-inside : goal.try_descriptor_at-requires-clause-inside
try_descriptor_at-requires-clause-inside g c =
    let next : c.along.d.next_or_id < c.args.table.now.entries = right_next c.args.table.now.features c.size-bytes.result c.args.table.now.entries c.along.before c.along.d c.in_default.ensures (rw c.goes_on.ensures at c.if-not-goes_on.false) in
    omega (arith, next, c.requires.inside, c.along.invariant.size)

pub returns-in_default-try_descriptor_at-clause-walked : goal.returns-in_default-try_descriptor_at-clause-walked
returns-in_default-try_descriptor_at-clause-walked g c = λ m s.
    let s₀ = c.try_descriptor_at.ensures.stays m s in
    let sized = g.met.M.Memory.sized c.along.memory m s₀ in
    path_first m c.args.table.now c.args.head c.args.first c.args.draft c.along._step c.along.before c.along.d c.along.draft (c.along.invariant.on m s₀) (rw (c.size-bytes.ensures.size, ← sized) at c.in_default.ensures)

pub along-preserved : goal.along-preserved
along-preserved g c =
    let pushed : c.push.new.self ≡ c.along.draft ++ part_of c.along.d ∷ [] = search rules in
    record {
      size = c.try_descriptor_at.ensures.size ∙ c.along.invariant.size;
      stays = λ m s. c.along.invariant.stays m (c.try_descriptor_at.ensures.stays m s);
      stores = c.try_descriptor_at.ensures.stores ∙ c.along.invariant.stores;
      reading = c.try_descriptor_at.ensures.reading;
      on = λ m s.
          let s₀ = c.try_descriptor_at.ensures.stays m s in
          let sized = g.met.M.Memory.sized c.along.memory m s₀ in
          rw (pushed, c.with-before.ensures)
          (path_more m c.args.table.now c.args.head c.args.first c.args.draft c.along._step c.along.before c.along.d c.along.draft (c.along.invariant.on m s₀)
          c.in-Ok.next (c.in-Ok.ensures.descriptor m s) (rw (c.size-bytes.ensures.size, ← sized) at c.in_default.ensures) (rw c.goes_on.ensures at c.if-not-goes_on.false));
    }

pub unreachable-requires : goal.unreachable-requires
unreachable-requires g c =
    let on = c.along.invariant.on c.size-bytes-2.ensures.some.0 c.size-bytes-2.ensures.some.1 in
    omega (arith, on.walked.left, c.along-test.false)
