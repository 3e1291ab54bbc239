use Rattle.block_store.proofs.Runs.{run-add}
use Rattle.block_store.proofs.laws.read_in_two_parts.Goals as goal

pub returns : goal.returns
returns c = run-add
