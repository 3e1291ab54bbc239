use Rattle.storage_laws.proofs.Lasting.{stays_durable}
use Rattle.storage_laws.proofs.flushes.what_a_flush_left_stays.Goals as goal

pub returns : goal.returns
returns c = stays_durable
