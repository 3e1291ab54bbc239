use Rattle.scsi_codec.proofs.Units.{unit_of_form, form_of_unit}
use Rattle.scsi_codec.proofs.laws.readable_forms.Goals as goal

pub returns : goal.returns
returns c bytes are = (unit_of_form bytes are, form_of_unit bytes)
