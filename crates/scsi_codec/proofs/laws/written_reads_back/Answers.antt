use Rattle.scsi_codec.specs.Lun.{written_address}
use Rattle.std.proofs.Common.{Some}
use Rattle.scsi_codec.proofs.Units.{reads_once, written_is_address}
use Rattle.scsi_codec.proofs.laws.written_reads_back.Goals as goal

pub returns-clause-back : goal.returns-clause-back
returns-clause-back c a read h p = reads_once (written_address a) read (Some a) p (written_is_address a h)
