use Rattle.config.proofs.Faults.{or_else}
use Rattle.config.proofs.config_fault.has_own_naa.Goals as goal

pub returns-else-naa-eq0 : goal.returns-else-naa-eq0
returns-else-naa-eq0 c = or_else _ _ _ _ c.naa.ensures c.if-naa-eq0.false c.is_shared.ensures
