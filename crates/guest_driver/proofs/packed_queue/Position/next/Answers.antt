use Rattle.std.proofs.Common.{arith}
use Rattle.guest_driver.proofs.Rounds.{passed_inside, passed_round}
use Rattle.guest_driver.proofs.packed_queue.Position.next.Goals as goal

pub returns-then-self-get : goal.returns-then-self-get
returns-then-self-get c = λ slots at. passed_inside c.args.size.value slots c.args.self at (omega arith)

pub returns-else-self-get : goal.returns-else-self-get
returns-else-self-get c =
    λ slots at. passed_round c.args.size.value slots c.args.self c.args.size.ok at (omega arith)
