use Rattle.std.proofs.Common.{◌≤◌, ◌∙◌, length, false}
use Rattle.ring_core.specs.declared.descriptor.Part.{Part}
use Rattle.ring_core.proofs.ByPart.{end_more, end_within, place_more}
use Rattle.ring_core.proofs.bytes.read_parts.Goals as goal

abbrev none : Part
none = record { addr = 0; len = 0; writable = false }

pub loop-part-preserved : goal.loop-part-preserved
loop-part-preserved g c =
    let le : c.loop-part.at ≤ length c.loop-part.bytes =
    rw (c.loop-part.invariant.at, c.loop-part.invariant.len) (end_within c.args.parts.now c.loop-part.part-index c.args.most) in
    record {
      size = c.read_part.ensures.size ∙ c.loop-part.invariant.size;
      stays = λ m s. c.loop-part.invariant.stays m (c.read_part.ensures.stays m s);
      stores = c.read_part.ensures.stores ∙ c.loop-part.invariant.stores;
      reading = c.read_part.ensures.reading;
      len = c.read_part.ensures.len ∙ c.loop-part.invariant.len;
      at =
          rw (c.in_ok-at.ensures.end, c.loop-part.invariant.at)
          (end_more c.args.parts.now c.loop-part.part-index c.args.most none c.loop-part-test.true);
      read = λ m s.
          rw (c.in_ok-at.ensures.read m s)
          (place_more m c.args.parts.now c.loop-part.part-index c.args.most c.loop-part.at none c.loop-part.bytes c.loop-part-test.true le
          (c.loop-part.invariant.read m (c.read_part.ensures.stays m s)));
    }
