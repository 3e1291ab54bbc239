use Rattle.std.proofs.Common.{◌<◌, length, ◌∙◌, arith}
use Rattle.std.proofs.lemmas.List.{length-set}
use Rattle.block_commands.proofs.Oring.{or_more}
use Rattle.block_commands.proofs.or_write.put_or.Goals as goal

pub loop-at-preserved : goal.loop-at-preserved
loop-at-preserved c =
    let inside : c.loop-at.at < length c.args.held.now = c.loop-at-test.true in
    let within : c.loop-at.at < length c.args.bytes.now = omega (arith, inside, c.requires) in
    record {
      bytes = or_more c.args.held.now c.args.bytes.now c.loop-at.held c.loop-at.at inside within c.loop-at.invariant.bytes;
      len = length-set _ _ _ ∙ c.loop-at.invariant.len;
    }
