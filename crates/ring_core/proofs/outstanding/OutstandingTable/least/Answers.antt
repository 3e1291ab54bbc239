use Rattle.std.proofs.Common.{◌≡◌}
use Rattle.ring_core.specs.Table.{tabulated, found_under}
use Rattle.ring_core.proofs.Tabulated.{length-tabulated}
use Rattle.ring_core.proofs.outstanding.OutstandingTable.least.Goals as goal

pub returns-in-ById : goal.returns-in-ById
returns-in-ById c =
    let is : tabulated (found_under c.in-ById.chains) c.self.inside.ids ≡ c.args.self.now = rw c.in-ById.is at c.self.view_is in
    rw (← is, length-tabulated (found_under c.in-ById.chains) c.self.inside.ids) c.least_by_id.ensures
