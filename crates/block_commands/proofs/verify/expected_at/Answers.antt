use Rattle.std.proofs.Common.{◌≡◌, ◌*◌, length, ap, ◌∙◌, arith}
use Rattle.cdb.specs.Need.{sent_blocks}
use Rattle.block_commands.proofs.verify.expected_at.Goals as goal

pub block_in-requires : goal.block_in-requires
block_in-requires c =
    let size : length c.args.bytes.now ≡ 512 * c.args.blocks =
    c.requires.size ∙ ap (λ sent. 512 * sent_blocks sent c.args.blocks) c.in-EachBlock.is in
    omega (arith, size)
