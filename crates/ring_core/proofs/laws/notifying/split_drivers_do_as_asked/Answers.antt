use Rattle.ring_core.proofs.Notifying.{next_of_split, never_of_split, used_of_split}
use Rattle.ring_core.proofs.laws.notifying.split_drivers_do_as_asked.Goals as goal

pub returns-clause-next : goal.returns-clause-next
returns-clause-next c = next_of_split

pub returns-clause-never : goal.returns-clause-never
returns-clause-never c = never_of_split

pub returns-clause-used : goal.returns-clause-used
returns-clause-used c = used_of_split
