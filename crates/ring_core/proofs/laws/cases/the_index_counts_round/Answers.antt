use Rattle.std.proofs.Common.{arith}
use Rattle.ring_core.proofs.Cases.{ahead_none, ahead_some}
use Rattle.ring_core.proofs.laws.cases.the_index_counts_round.Goals as goal

pub returns : goal.returns
returns c = record { none = ahead_none; one = λ s m e. ahead_some s m 1 (omega arith) e; each = ahead_some }
