-- What a recorded bus was asked.
use Rattle.std.specs.Prelude.{List, []}
use Rattle.live_mem.specs.Access.{Access}
use Rattle.live_mem.specs.Calls.{accesses}
use Rattle.live_mem.specs.declared.recorded.RecordedBus.{RecordedBus}

-- the accesses of its bus, the latest first
abbrev pub heard : {B : Type 0} → RecordedBus B → List Access
heard b = accesses [] b.calls.items b.bytes.items
