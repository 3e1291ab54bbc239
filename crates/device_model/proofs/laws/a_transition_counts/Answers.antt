use Rattle.std.proofs.Common.{refl}
use Rattle.device_model.proofs.Counting.{unchanged, idle_unchanged}
use Rattle.device_model.proofs.laws.a_transition_counts.Goals as goal

pub returns-clause-changed : goal.returns-clause-changed
returns-clause-changed c = λ d. (unchanged d, idle_unchanged d)

pub returns-clause-idle : goal.returns-clause-idle
returns-clause-idle c = λ w e. refl
