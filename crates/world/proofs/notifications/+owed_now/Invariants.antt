use Rattle.std.proofs.Common.{length}
use Rattle.world.proofs.notifications.+owed_now.Given as goal

abbrev pub decreases-owed_now : goal.decreases-owed_now
decreases-owed_now l = length l.asked.now
