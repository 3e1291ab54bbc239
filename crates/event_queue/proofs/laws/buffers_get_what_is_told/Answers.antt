use Rattle.event_queue.proofs.Telling.{agree}
use Rattle.event_queue.proofs.laws.buffers_get_what_is_told.Goals as goal

pub returns-clause-given : goal.returns-clause-given
returns-clause-given c = λ limit past. (agree limit past).given

pub returns-clause-held : goal.returns-clause-held
returns-clause-held c = λ limit past. (agree limit past).held

pub returns-clause-missed : goal.returns-clause-missed
returns-clause-missed c = λ limit past. (agree limit past).missed
