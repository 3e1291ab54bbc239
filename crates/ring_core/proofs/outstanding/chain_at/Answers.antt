use Rattle.std.proofs.Common.{None, sym, ◌∙◌}
use Rattle.ring_core.specs.Table.{found_under}
use Rattle.ring_core.proofs.Tabulated.{get_or-tabulated, past-tabulated}
use Rattle.ring_core.proofs.outstanding.chain_at.Goals as goal

pub returns-then-id-ids : goal.returns-then-id-ids
returns-then-id-ids c = c.get.ensures ∙ sym (get_or-tabulated (found_under c.args.chains.now) c.args.ids c.args.id None c.if-id-ids.true)

pub returns-else-id-ids : goal.returns-else-id-ids
returns-else-id-ids c = sym (past-tabulated (found_under c.args.chains.now) c.args.ids c.args.id None c.if-id-ids.false)
