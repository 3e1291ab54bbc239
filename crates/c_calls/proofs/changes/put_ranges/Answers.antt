use Rattle.std.proofs.Common.{◌≡◌, ◌<◌, ◌+◌, suc, length, map, take, refl, sym, ap, ◌∙◌, subst, arith}
use Rattle.std.specs.Prelude.{slice_set, slice_index_or}
use Rattle.std.proofs.lemmas.Option.{slice_get-get_or}
use Rattle.c_calls.specs.Changes.{range_of}
use Rattle.c_calls.specs.declared.ranges.BlockRange.{BlockRange}
use Rattle.c_calls.proofs.Handed.{put_next}
use Rattle.c_calls.proofs.Taking.{set_length}
use Rattle.c_calls.proofs.changes.put_ranges.Goals as goal

pub loop-k-preserved : goal.loop-k-preserved
loop-k-preserved c =
    let k = c.loop-k.k in
    let range = slice_index_or c.args.ranges.now k (record { first = 0; count = 0 }) in
    let block : BlockRange = record { first = range.first; count = range.count } in
    let within : k < length c.args.ranges.now = omega (arith, c.loop-k-test.true) in
    let room : k < length c.loop-k.room = omega (arith, within, c.requires, c.loop-k.invariant.same) in
    let next : k + 1 ≡ suc k = omega (arith) in
    record {
      put =
          subst (λ j. map range_of (take j (slice_set c.loop-k.room k block)) ≡ take j c.args.ranges.now) (sym next)
          (put_next c.args.ranges.now c.loop-k.room k block c.loop-k.invariant.put
          (slice_get-get_or c.args.ranges.now k (record { first = 0; count = 0 }) within) room);
      same = set_length c.loop-k.room k block ∙ c.loop-k.invariant.same;
      all = refl;
    }
