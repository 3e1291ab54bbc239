use Rattle.scsi_codec.proofs.Readings.{some_reading_of, one_reading_of}
use Rattle.scsi_codec.proofs.laws.one_reading.Goals as goal

pub returns-clause-some : goal.returns-clause-some
returns-clause-some c = some_reading_of

pub returns-clause-one : goal.returns-clause-one
returns-clause-one c = one_reading_of
