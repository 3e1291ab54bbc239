use Rattle.cdb.proofs.Profiled.{refused}
use Rattle.cdb.proofs.laws.naca.Goals as goal

pub returns : goal.returns
returns c = refused
