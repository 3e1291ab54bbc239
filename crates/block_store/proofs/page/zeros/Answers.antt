use Rattle.std.proofs.Common.{◌*◌, arith}
use Rattle.std.proofs.lemmas.List.{take-replicate}
use Rattle.block_store.proofs.page.zeros.Goals as goal

pub returns : goal.returns
returns c = take-replicate (512 * c.args.count) 4096 0 (omega arith)
