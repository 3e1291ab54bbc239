use Rattle.block_store.proofs.Paging.{installed-overwritten}
use Rattle.block_store.proofs.laws.installed_is_written.Goals as goal

pub returns : goal.returns
returns c = installed-overwritten
