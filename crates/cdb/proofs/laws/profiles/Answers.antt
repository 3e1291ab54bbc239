use Rattle.cdb.proofs.Gaining.{alike, gained, good}
use Rattle.cdb.proofs.laws.profiles.Goals as goal

pub returns-clause-alike : goal.returns-clause-alike
returns-clause-alike c = alike

pub returns-clause-gained : goal.returns-clause-gained
returns-clause-gained c = gained

pub returns-clause-good : goal.returns-clause-good
returns-clause-good c = good
