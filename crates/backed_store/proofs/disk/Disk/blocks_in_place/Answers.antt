use Rattle.backed_store.proofs.Lengths.{length-some}
use Rattle.backed_store.proofs.disk.Disk.blocks_in_place.Goals as goal

pub returns-clause-len : goal.returns-clause-len
returns-clause-len c = length-some c.args.self.now c.args.first c.args.count
