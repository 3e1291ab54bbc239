use Rattle.std.proofs.Common.{arith}
use Rattle.scsi_codec.specs.Lun.{AreBytes}
use Rattle.phases.proofs.Deciding.{decided_as}
use Rattle.phases.proofs.fetching.decision_of_chain.Goals as goal

pub returns-clause-decision : goal.returns-clause-decision
returns-clause-decision c =
    let are : AreBytes c.args.bytes.now = λ k. omega (arith, c.type_inv.bytes k) in
    decided_as c.args.inventory.now c.args.chain.now c.args.bytes.now c.writable_len.result c.decide_control.result
    (c.one_control.ensures.some c.args.bytes.now are) c.writable_len.ensures.len c.decide_control.ensures.decision
