use Rattle.std.proofs.Common.{None}
use Rattle.ring_core.specs.Table.{found_under}
use Rattle.ring_core.proofs.Tabulated.{tabulated-one}
use Rattle.ring_core.proofs.outstanding.OutstandingTable.by_id.Goals as goal

pub returns : goal.returns
returns c = tabulated-one (found_under c.new.result) None c.new.ensures c.args.ids
