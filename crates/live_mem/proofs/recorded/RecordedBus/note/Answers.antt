use Rattle.std.proofs.Common.{[], arith, length-append}
use Rattle.live_mem.proofs.Recording.{accesses_push, lengths_push}
use Rattle.live_mem.proofs.recorded.RecordedBus.note.Goals as goal

pub invariant_of-self : goal.invariant_of-self
invariant_of-self g c =
    let m = lengths_push c.args.self.now.calls.items c.args.call.now in
    rw (c.push.ensures, c.extend_from_slice.ensures) (omega (arith, m, c.args.self.now.tally, c.requires, length-append c.args.self.now.bytes.items c.args.bytes.now))

pub returns : goal.returns
returns g c =
    rw (c.push.ensures, c.extend_from_slice.ensures) (accesses_push [] c.args.self.now.calls.items c.args.call.now c.args.self.now.bytes.items c.args.bytes.now c.args.self.now.tally c.requires)
