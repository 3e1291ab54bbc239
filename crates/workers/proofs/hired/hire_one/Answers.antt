use denote.Exit.{no}
use denote.Param.{param}
use denote.Param.Send.{IsSend, param_send, arg_send, sendable}
use Rattle.workers.specs.contracts.hired.Worked.{the_row}
use Rattle.workers.proofs.CrewCrossing.{worked_sends}
use Rattle.workers.proofs.hired.hire_one.Goals as goal

pub spawn_with-requires-send-T : goal.spawn_with-requires-send-T
spawn_with-requires-send-T g c κs = λ within.
    let kept : IsSend (param 3 g.row.K) = c.type_bounds.send-K in
    param_send 3 _ (arg_send _ no (the_row (param 3 g.row.K)) (worked_sends (param 3 g.row.K) (search (sendable, kept))))
