use Rattle.std.proofs.Common.{◌∙◌, ap, ℕ, subst}
use Rattle.guest_mem.specs.Memory.{bytes_at}
use Rattle.live_mem.specs.Access.{Asks}
use Rattle.live_mem.specs.Inner.Access.{ReadsThere}
use Rattle.live_mem.specs.Heard.{heard}
use Rattle.live_mem.proofs.Reading.{reads_asks, reads_gives, reads_stays}
use Rattle.live_mem.proofs.live.LiveMemMemory.try_read.Goals as goal

pub returns-clause-stays : goal.returns-clause-stays
returns-clause-stays g c = λ m may.
    let s = c.args.self.now in
    let t = c.read_there.new.self in
    let loads : ReadsThere (heard s.bus) (heard t.bus) c.args.addr c.read_there.new.out = rw c.make_room.ensures.bus at c.read_there.ensures.loads in
    reads_stays s.size t.size (heard s.bus) (heard t.bus) c.args.addr c.read_there.new.out m (c.read_there.ensures.size ∙ c.make_room.ensures.size) (rw c.read_there.ensures.len c.requires.inside) c.requires.reading loads may

pub returns-clause-read : goal.returns-clause-read
returns-clause-read g c = λ m may.
    let s = c.args.self.now in
    let t = c.read_there.new.self in
    let loads : ReadsThere (heard s.bus) (heard t.bus) c.args.addr c.read_there.new.out = rw c.make_room.ensures.bus at c.read_there.ensures.loads in
    reads_gives s.size t.size (heard s.bus) (heard t.bus) c.args.addr c.read_there.new.out m (c.read_there.ensures.size ∙ c.make_room.ensures.size) (rw c.read_there.ensures.len c.requires.inside) c.requires.reading loads may
    ∙ ap (bytes_at m c.args.addr) c.read_there.ensures.len

pub returns-clause-asks : goal.returns-clause-asks
returns-clause-asks g c =
    let s = c.args.self.now in
    let t = c.read_there.new.self in
    let loads : ReadsThere (heard s.bus) (heard t.bus) c.args.addr c.read_there.new.out = rw c.make_room.ensures.bus at c.read_there.ensures.loads in
    subst (λ (n : ℕ). Asks (heard s.bus) (heard t.bus) c.args.addr n) c.read_there.ensures.len
    (reads_asks (heard s.bus) (heard t.bus) c.args.addr c.read_there.new.out loads)
