use Rattle.std.proofs.Common.{◌≡◌, ◌+◌, ◌-◌, ◌*◌, length, arith}
use Rattle.block_store.proofs.Written.{put-overwritten}
use Rattle.block_store.proofs.bytes.put_blocks.Goals as goal

pub returns : goal.returns
returns c = λ b.
    let position : c.args.first * 512 ≡ 512 * c.args.first = omega arith in
    let size : c.args.first * 512 + length c.args.bytes.now - c.args.first * 512 ≡ length c.args.bytes.now = omega arith in
    rw c.copy_from_slice.ensures.after
    (put-overwritten c.args.held.now c.args.bytes.now c.args.first _ _ b position size c.requires.whole c.requires.range)
