use Rattle.std.proofs.Common.{◌≤◌, arith}
use Rattle.scsi_codec.specs.ControlQueue.{answer_len}
use Rattle.task_mgmt.proofs.Deciding.{suits_with_room}
use Rattle.task_mgmt.proofs.control.decide.Goals as goal

pub returns-clause-suits : goal.returns-clause-suits
returns-clause-suits c =
    let room : answer_len c.args.control.now ≤ c.args.writable = omega (arith, c.answer_len.ensures) in
    rw c.decide_with_room.ensures (suits_with_room c.args.inventory.now.addresses c.args.control.now c.args.writable room)
