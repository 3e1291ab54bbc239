use Rattle.std.proofs.Common.{◌∙◌, arith}
use Rattle.std.proofs.lemmas.Grind.{common_steps}
use Rattle.ring_core.proofs.ByPart.{gather_more}
use Rattle.ring_core.proofs.bytes.gather.Goals as goal

pub loop-part-preserved : goal.loop-part-preserved
loop-part-preserved g c =
    record {
      size = c.append_part.ensures.size ∙ c.loop-part.invariant.size;
      stays = λ m s. c.loop-part.invariant.stays m (c.append_part.ensures.stays m s);
      stores = c.append_part.ensures.stores ∙ c.loop-part.invariant.stores;
      reading = c.append_part.ensures.reading;
      few = c.in_ok-append_part.ensures.few;
      read = λ m s.
          let before = c.loop-part.invariant.read m (c.append_part.ensures.stays m s) in
          let more = c.in_ok-append_part.ensures.read m s in
          grind (arith, common_steps, gather_more, before, more);
    }
