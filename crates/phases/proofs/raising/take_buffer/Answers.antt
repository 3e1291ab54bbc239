use Rattle.std.proofs.Common.{◌≡◌, arith, false}
use Rattle.std.proofs.lemmas.Bool.Decides.{nat_tests}
use Rattle.device_model.specs.Parts.{is_short}
use Rattle.phases.proofs.Raised.{takes_held, is_held}
use Rattle.phases.proofs.raising.take_buffer.Goals as goal

pub returns-in-None-clause-takes : goal.returns-in-None-clause-takes
returns-in-None-clause-takes g c =
    let short : is_short c.args.chain ≡ false = grind (arith, nat_tests, c.writable_len.ensures.len, c.if-writable_len.false) in
    let (held, port) = is_held c.args.chain c.args.port.now c.buffer.new.self short c.in-None.ensures.gives c.buffer.ensures.port in
    takes_held g.M.Memory.shared c.args.chain c.args.queue.now c.args.port.now c.buffer.new.self
    (g.M.Memory.may_be c.args.memory.now) held port
