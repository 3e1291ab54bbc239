use Rattle.ring_core.proofs.Notifying.{next_of_packed, never_of_packed, beside_packed}
use Rattle.ring_core.proofs.laws.notifying.packed_drivers_do_as_asked.Goals as goal

pub returns-clause-next : goal.returns-clause-next
returns-clause-next c = next_of_packed

pub returns-clause-never : goal.returns-clause-never
returns-clause-never c = never_of_packed

pub returns-clause-beside : goal.returns-clause-beside
returns-clause-beside c = beside_packed
