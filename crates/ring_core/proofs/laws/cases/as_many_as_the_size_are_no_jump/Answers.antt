use Rattle.std.proofs.Common.{arith}
use Rattle.ring_core.proofs.Cases.{no_jump_at, jump_above}
use Rattle.ring_core.proofs.laws.cases.as_many_as_the_size_are_no_jump.Goals as goal

pub returns : goal.returns
returns c = record { size = λ s m e. no_jump_at s m (omega arith); one_more = λ s m e. jump_above s m (omega arith) }
