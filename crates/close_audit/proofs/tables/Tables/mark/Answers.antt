use Rattle.std.proofs.Common.{arith}
use Rattle.close_audit.proofs.Slots.{tables_marked, tables_past, unknown_past, known_there}
use Rattle.close_audit.proofs.tables.Tables.mark.Goals as goal

pub returns-then-queue-len-clause-known : goal.returns-then-queue-len-clause-known
returns-then-queue-len-clause-known c =
    known_there c.args.self.now.tables.items c.args.ticket c.args.fact c.index_mut.result.now c.mark_in.result (omega (arith, c.args.self.now.tables.ok.0)) c.index_mut.ensures.value c.mark_in.ensures.known

pub returns-then-queue-len-clause-marks : goal.returns-then-queue-len-clause-marks
returns-then-queue-len-clause-marks c =
    tables_marked c.args.self.now.tables.items c.args.ticket c.args.fact c.index_mut.result.now c.mark_in.new.table (omega (arith, c.args.self.now.tables.ok.0)) c.index_mut.ensures.value c.mark_in.ensures.marks

pub returns-else-queue-len-clause-known : goal.returns-else-queue-len-clause-known
returns-else-queue-len-clause-known c = unknown_past c.args.self.now.tables.items c.args.ticket c.args.fact (omega (arith, c.args.self.now.tables.ok.0))

pub returns-else-queue-len-clause-marks : goal.returns-else-queue-len-clause-marks
returns-else-queue-len-clause-marks c = tables_past c.args.self.now.tables.items c.args.ticket c.args.fact (omega (arith, c.args.self.now.tables.ok.0))
