use Rattle.block_store.proofs.Runs.{run-zeroed}
use Rattle.block_store.proofs.laws.zeroed_reads_as_zeros.Goals as goal

pub returns : goal.returns
returns c = run-zeroed
