use Rattle.backed_store.proofs.Kept.{host-then}
use Rattle.backed_store.proofs.backed.BackedStore.ask_beside.Goals as goal

pub returns-clause-host : goal.returns-clause-host
returns-clause-host c = host-then c.ask_where-head.ensures.host c.ask_where-tail.ensures.host
