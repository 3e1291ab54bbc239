use Rattle.std.proofs.Common.{◌≡◌, ◌<◌, length, arith, ap, ◌∙◌, List, Option, None, set}
use Rattle.ring_core.specs.Table.{tabulated, found_under}
use Rattle.ring_core.specs.declared.outstanding.OutstandingChain.{OutstandingChain}
use Rattle.ring_core.proofs.Tabulated.{length-tabulated}
use Rattle.ring_core.proofs.outstanding.OutstandingTable.remove.Goals as goal

pub returns-in-ById : goal.returns-in-ById
returns-in-ById c =
    let is : tabulated (found_under c.in-ById.chains) c.self.inside.ids ≡ c.args.self.now = rw c.in-ById.is at c.self.view_is in
    let lt : c.args.id < c.self.inside.ids = omega (arith, length-tabulated (found_under c.in-ById.chains) c.self.inside.ids, ap length is, c.requires) in
    c.remove_chain.ensures c.self.inside.ids lt ∙ ap (λ (xs : List (Option OutstandingChain)). set xs c.args.id None) is
