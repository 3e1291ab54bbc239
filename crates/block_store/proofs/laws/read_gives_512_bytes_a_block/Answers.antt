use Rattle.block_store.proofs.Runs.{length-run}
use Rattle.block_store.proofs.laws.read_gives_512_bytes_a_block.Goals as goal

pub returns : goal.returns
returns c = length-run
