use Rattle.std.proofs.Common.{length}
use Rattle.backed_store.proofs.page_range.+spared_until.Given as goal

abbrev pub decreases-spared_until : goal.decreases-spared_until
decreases-spared_until l = length l.spared.now
