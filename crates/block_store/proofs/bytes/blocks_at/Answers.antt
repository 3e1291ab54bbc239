use Rattle.std.proofs.Common.{◌≡◌, ◌-◌, ◌+◌, ◌*◌, sym, arith}
use Rattle.block_store.proofs.Written.{run-nth_block}
use Rattle.block_store.proofs.bytes.blocks_at.Goals as goal

pub returns-clause-bytes : goal.returns-clause-bytes
returns-clause-bytes c =
    let size : (c.args.first + c.args.count) * 512 - c.args.first * 512 ≡ 512 * c.args.count = omega arith in
    let position : c.args.first * 512 ≡ 512 * c.args.first = omega arith in
    rw (size, position) (sym (run-nth_block c.args.held.now c.args.first c.args.count))
