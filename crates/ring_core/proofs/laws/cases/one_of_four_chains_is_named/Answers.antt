use Rattle.ring_core.proofs.Cases.{four_named}
use Rattle.ring_core.proofs.laws.cases.one_of_four_chains_is_named.Goals as goal

pub returns : goal.returns
returns c = record { first = four_named.0; second = four_named.1; third = four_named.2; fourth = four_named.3 }
