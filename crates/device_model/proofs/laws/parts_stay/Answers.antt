use Rattle.std.proofs.Common.{length, ap, ◌∙◌}
use Rattle.device_model.proofs.Running.{run_memory}
use Rattle.device_model.proofs.Staying.{run_stays, long_after}
use Rattle.device_model.proofs.laws.parts_stay.Goals as goal

pub returns-clause-parts : goal.returns-clause-parts
returns-clause-parts c = λ old trace w r. run_stays old trace w r.runs

pub returns-clause-memory : goal.returns-clause-memory
returns-clause-memory c = λ old trace w r h.
    ap length (run_memory old trace w r.runs) ∙ long_after old.memory trace h
