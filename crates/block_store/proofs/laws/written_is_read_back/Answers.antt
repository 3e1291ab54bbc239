use Rattle.block_store.proofs.Runs.{run-overwritten}
use Rattle.block_store.proofs.laws.written_is_read_back.Goals as goal

pub returns : goal.returns
returns c = λ blocks first count bytes. run-overwritten blocks first count bytes
