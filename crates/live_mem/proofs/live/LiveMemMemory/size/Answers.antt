use Rattle.live_mem.specs.Heard.{heard}
use Rattle.live_mem.proofs.Storing.{some_memory}
use Rattle.live_mem.proofs.live.LiveMemMemory.size.Goals as goal

pub returns-clause-some : goal.returns-clause-some
returns-clause-some g c =
    let s = c.args.self.now in
    some_memory s.size (heard s.bus) s.bytes_loaded s.stays_sized s.bytes_stored
