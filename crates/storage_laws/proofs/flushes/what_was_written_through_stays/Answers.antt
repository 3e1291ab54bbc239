use Rattle.storage_laws.proofs.Lasting.{stays_through}
use Rattle.storage_laws.proofs.flushes.what_was_written_through_stays.Goals as goal

pub returns : goal.returns
returns c = stays_through
