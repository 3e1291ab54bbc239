use Rattle.std.proofs.Common.{arith}
use Rattle.foundation_tests.proofs.tests.live.reads.Goals as goal

pub read-requires-2-clause-room : goal.read-requires-2-clause-room
read-requires-2-clause-room c =
    let room = c.read.ensures.room 63 c.begin.ensures.room in
    (omega (arith, room.0), room.1)
