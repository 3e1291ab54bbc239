use Rattle.live_mem.specs.Heard.{heard}
use Rattle.live_mem.proofs.Reading.{nothing_stays}
use Rattle.live_mem.proofs.live.LiveMemMemory.append.Goals as goal

pub returns-clause-stays : goal.returns-clause-stays
returns-clause-stays g c = λ m may.
    let s = c.args.self.now in
    let t = c.takes_long.new.self in
    nothing_stays s.size t.size (heard s.bus) (heard t.bus) m c.takes_long.ensures.size c.takes_long.ensures.bus (c.append_copied-2.ensures.stays m may)
