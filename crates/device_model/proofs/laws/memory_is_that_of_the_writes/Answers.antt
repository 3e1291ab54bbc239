use Rattle.device_model.proofs.Running.{run_memory}
use Rattle.device_model.proofs.laws.memory_is_that_of_the_writes.Goals as goal

pub returns : goal.returns
returns c = λ old trace w r. run_memory old trace w r.runs
