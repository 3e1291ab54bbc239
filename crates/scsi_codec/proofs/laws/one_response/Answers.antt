use Rattle.scsi_codec.proofs.Written.{known_by_bytes}
use Rattle.scsi_codec.proofs.laws.one_response.Goals as goal

pub returns-clause-one : goal.returns-clause-one
returns-clause-one c = known_by_bytes
