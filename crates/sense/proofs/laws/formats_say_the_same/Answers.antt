use Rattle.sense.proofs.Said.{said}
use Rattle.sense.proofs.laws.formats_say_the_same.Goals as goal

pub returns : goal.returns
returns c = λ f s small fits. said s.key s.asc s.ascq small f s.format s.information fits
