use Rattle.std.proofs.Common.{arith}
use Rattle.close_audit.proofs.Slots.{mark_set, mark_past, none_past}
use Rattle.close_audit.proofs.tables.mark_in.Goals as goal

pub returns-then-number-len-clause-marks : goal.returns-then-number-len-clause-marks
returns-then-number-len-clause-marks c =
    mark_set c.args.table.now.items c.args.number c.args.fact c.index-tally.result.now c.after.result (omega (arith, c.args.table.now.ok.0)) c.index-tally.ensures c.after.ensures

pub returns-else-number-len-clause-known : goal.returns-else-number-len-clause-known
returns-else-number-len-clause-known c = none_past c.args.table.now.items c.args.number (omega (arith, c.args.table.now.ok.0))

pub returns-else-number-len-clause-marks : goal.returns-else-number-len-clause-marks
returns-else-number-len-clause-marks c = mark_past c.args.table.now.items c.args.number c.args.fact (omega (arith, c.args.table.now.ok.0))
