use Rattle.std.proofs.Common.{◌≡◌, ◌≤◌, ◌+◌, ◌-◌, ◌*◌, length, drop, arith, length-drop}
use Rattle.std.proofs.lemmas.List.{length-take-le}
use Rattle.block_store.proofs.Written.{put-zeroed}
use Rattle.block_store.proofs.bytes.put_zeros.Goals as goal

pub returns : goal.returns
returns c = λ b.
    let size : (c.args.first + c.args.count) * 512 - c.args.first * 512 ≡ 512 * c.args.count = omega arith in
    let room : (c.args.first + c.args.count) * 512 - c.args.first * 512 ≤ length (drop (c.args.first * 512) c.args.held.now) =
    rw length-drop (omega arith) in
    rw (c.fill.ensures.after (λ _ is. is), length-take-le _ (drop (c.args.first * 512) c.args.held.now) room)
    (put-zeroed c.args.held.now c.args.first c.args.count _ _ b (omega arith) size c.requires)
