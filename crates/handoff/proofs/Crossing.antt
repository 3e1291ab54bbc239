-- A job may go to another thread, and so may a seat. The search finds neither alone, since a job is large.
use denote.Param.Send.{IsSend, sendable, recorded_send, struct_send}
use denote.Struct.Declared.{shape}
use Rattle.task_set.specs.contracts.job.Job.{the_row}
use Rattle.task_set.specs.contracts.job.Job.TheInside as inside
use Rattle.ring_core.proofs.chain.Chain.TheSendSync as chain
use Rattle.atomic_table.proofs.shared.Seat.TheSendSync as table
use Rattle.std.proofs.option.Option.TheSendSync as option
use Rattle.std.proofs.Crossing.{crosses}
use Rattle.handoff.specs.contracts.lane.LaneEnd.{the_row as end_row}
use Rattle.handoff.specs.contracts.lane.LaneEnd.TheInside as end
use Rattle.handoff.specs.contracts.seat.Seat.{the_row as seat_row}
use Rattle.handoff.specs.contracts.seat.Seat.TheInside as seat

fields : IsSend inside.the_row
fields = recorded_send inside.the_field.row _ _ inside.the_type.to_one
    (struct_send (shape inside.the_type) (search sendable, (search sendable depth 60 fits 50000, (chain.the_send, (search sendable, (search sendable, (search sendable depth 60 fits 50000, (search sendable, (search sendable, tt)))))))))

pub job_sends : IsSend the_row
job_sends = search (sendable, fields)

end_fields : IsSend end.the_row
end_fields = recorded_send end.the_field.row _ _ end.the_type.to_one
    (struct_send (shape end.the_type) (table.the_send _ _ (option.the_send _ job_sends), tt))

end_sends : IsSend end_row
end_sends = search (sendable, end_fields)

seat_fields : IsSend seat.the_row
seat_fields = recorded_send seat.the_field.row _ _ seat.the_type.to_one
    (struct_send (shape seat.the_type) (search (crosses, end_sends), (search sendable, (search sendable depth 30, tt))))

pub seat_sends : IsSend seat_row
seat_sends = search (sendable, seat_fields)
