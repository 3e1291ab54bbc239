use Rattle.scsi_codec.proofs.Readings.{holds_none, unread}
use Rattle.scsi_codec.proofs.laws.refused_holds_none.Goals as goal

pub returns-clause-holds_none : goal.returns-clause-holds_none
returns-clause-holds_none c = holds_none

pub returns-clause-unread : goal.returns-clause-unread
returns-clause-unread c = unread
