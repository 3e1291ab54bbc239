use Rattle.cdb.proofs.Profiled.{unknown, known}
use Rattle.cdb.proofs.laws.opcodes.Goals as goal

pub returns-clause-other : goal.returns-clause-other
returns-clause-other c = unknown

pub returns-clause-profiled : goal.returns-clause-profiled
returns-clause-profiled c = known
