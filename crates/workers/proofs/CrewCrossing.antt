-- What a worker brings back may go to another thread, where what it kept may.
use denote.Param.Send.{IsSend, recorded_send, struct_send}
use denote.RattleType.{RattleType}
use denote.Struct.Declared.{shape}
use denote.Struct.Field.{row_field}
use Rattle.handoff.proofs.Crossing.{seat_sends}
use Rattle.workers.specs.contracts.hired.Worked.{the_row, the_field, the_type}

pub worked_sends : (K : RattleType) → IsSend (row_field K).row → IsSend (the_row K)
worked_sends K kept = recorded_send (the_field K).row _ _ (the_type K).to_one
    (struct_send (shape (the_type K)) (seat_sends, (kept, tt)))
