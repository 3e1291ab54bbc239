use Rattle.guest_mem.proofs.Slices.{other_bytes}
use Rattle.guest_mem.proofs.laws.keeps_other_bytes.Goals as goal

pub returns : goal.returns
returns c = other_bytes
