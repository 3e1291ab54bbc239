use Rattle.device_model.proofs.Live.{any_bytes}
use Rattle.device_model.proofs.live_laws.any_bytes_may_stand_there.Goals as goal

pub returns : goal.returns
returns c = any_bytes
