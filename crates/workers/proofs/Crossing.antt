-- What a worker brings back, and the part that it begins with, may go to another thread.
use denote.Param.Send.{IsSend, recorded_send, struct_send}
use denote.RattleType.{RattleType}
use denote.Struct.Declared.{shape}
use Rattle.std.specs.declared.sync.ledger.Ledger.{Ghosts}
use Rattle.lock_scopes.proofs.Crossing.{part_sends}
use Rattle.close_audit.proofs.Crossing.{kept_sends}
use Rattle.worker_steps.proofs.Crossing.{ticket_sends}
use Rattle.workers.specs.contracts.tallied.Tallied.{the_row as tallied_row, the_field as tallied_field, the_type as tallied_type}
use Rattle.workers.specs.contracts.tallied.BlankPart.{the_row as blank_part_row, the_field as blank_part_field, the_type as blank_part_type}

tallied_fields : (W : RattleType) (w : Ghosts W.Denot) → IsSend (tallied_field W w).row
tallied_fields W w = struct_send (shape (tallied_type W w)) (kept_sends, (part_sends W w, (ticket_sends, tt)))

pub tallied_sends : (W : RattleType) (w : Ghosts W.Denot) → IsSend (tallied_row W w)
tallied_sends W w = recorded_send (tallied_field W w).row _ _ (tallied_type W w).to_one (tallied_fields W w)

blank_part_fields : (W : RattleType) (w : Ghosts W.Denot) → IsSend (blank_part_field W w).row
blank_part_fields W w = struct_send (shape (blank_part_type W w)) (part_sends W w, tt)

pub blank_part_sends : (W : RattleType) (w : Ghosts W.Denot) → IsSend (blank_part_row W w)
blank_part_sends W w = recorded_send (blank_part_field W w).row _ _ (blank_part_type W w).to_one (blank_part_fields W w)
