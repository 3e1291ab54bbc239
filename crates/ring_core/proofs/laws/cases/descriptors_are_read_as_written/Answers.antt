use Rattle.ring_core.proofs.Cases.{split_bytes, packed_bytes}
use Rattle.ring_core.proofs.laws.cases.descriptors_are_read_as_written.Goals as goal

pub returns : goal.returns
returns c = record { split = split_bytes; packed = packed_bytes }
