use Rattle.device_model.proofs.Storing.{flush_kept, read_kept}
use Rattle.device_model.proofs.storage_laws.a_flush_ends_once_it_is_kept.Goals as goal

pub returns-clause-flush : goal.returns-clause-flush
returns-clause-flush c = flush_kept

pub returns-clause-read : goal.returns-clause-read
returns-clause-read c = read_kept
