use Rattle.std.proofs.Common.{None}
use Rattle.ring_core.specs.Table.{found_under}
use Rattle.ring_core.proofs.Tabulated.{tabulated-set}
use Rattle.ring_core.proofs.outstanding.remove_chain.Goals as goal

pub returns : goal.returns
returns c = λ ids lt. tabulated-set (found_under c.args.chains.now) (found_under c.remove.new.self) c.args.id None c.remove.ensures.here c.remove.ensures.others ids lt
