use Rattle.ring_core.proofs.Cases.{first_available_index, first_used_index, first_available_place, first_used_place}
use Rattle.ring_core.proofs.laws.cases.fresh_rings_begin_at_0.Goals as goal

pub returns-clause-available_index : goal.returns-clause-available_index
returns-clause-available_index c = first_available_index

pub returns-clause-used_index : goal.returns-clause-used_index
returns-clause-used_index c = first_used_index

pub returns-clause-available_slots : goal.returns-clause-available_slots
returns-clause-available_slots c = first_available_place

pub returns-clause-used_slots : goal.returns-clause-used_slots
returns-clause-used_slots c = first_used_place
