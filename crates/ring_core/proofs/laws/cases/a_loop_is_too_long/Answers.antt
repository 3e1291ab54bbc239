use Rattle.ring_core.proofs.Cases.{names_itself}
use Rattle.ring_core.proofs.laws.cases.a_loop_is_too_long.Goals as goal

pub returns : goal.returns
returns c = names_itself
