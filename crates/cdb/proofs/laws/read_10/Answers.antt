use Rattle.cdb.proofs.Profiled.{alike}
use Rattle.cdb.proofs.laws.read_10.Goals as goal

pub returns : goal.returns
returns c = alike
