use Rattle.scsi_codec.proofs.Readings.{some_function, one_function}
use Rattle.scsi_codec.proofs.laws.one_control.Goals as goal

pub returns-clause-some : goal.returns-clause-some
returns-clause-some c = some_function

pub returns-clause-one : goal.returns-clause-one
returns-clause-one c = one_function
