use Rattle.std.proofs.Common.{◌∙◌, arith}
use Rattle.logical_unit.specs.Changes.{is_in}
use Rattle.block_commands.proofs.Descriptors.{is_named-more}
use Rattle.logical_unit.proofs.Ranging.{covers-more}
use Rattle.logical_unit.proofs.changes.Changes.add_extents.Goals as goal

pub loop-i-preserved : goal.loop-i-preserved
loop-i-preserved c =
    let e = c.extent_at-extent in
    let now = c.loop-i.invariant in
    let below = c.loop-i-test.true in
    let named = is_named-more c.args.count c.loop-i.i c.args.taken.now e.result.lba e.result.count below e.ensures.lba e.ensures.count in
    record {
      since = c.add_below.ensures.since ∙ now.since;
      place = let room = now.place in let more = c.add_below.ensures.more in omega (arith, room, more, below);
      covers = λ b under out rest.
          let was = covers-more c.args.count c.loop-i.i b c.args.taken.now e.result.lba e.result.count (is_in c.loop-i.self.ranges b) below (named b)
          (rw c.from.ensures at c.add_below.ensures.covers b under out) rest in
          now.covers b under was.0 was.1;
    }
