use Rattle.ring_core.proofs.Cases.{goes_on_slot, goes_on_wrap}
use Rattle.ring_core.proofs.laws.cases.packed_rings_go_on_at_an_index.Goals as goal

pub returns-clause-slot : goal.returns-clause-slot
returns-clause-slot c = goes_on_slot

pub returns-clause-wrap : goal.returns-clause-wrap
returns-clause-wrap c = goes_on_wrap
