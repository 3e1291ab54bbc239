-- What stands under the locks may go to another thread. The search alone finds it of small types only.
use denote.Param.Send.{IsSend, sendable, recorded_send, struct_send, enum_send}
use denote.Param.SendFields.{declared_send, as_row_send}
use denote.RattleType.{RattleType}
use denote.Struct.Declared.{shape}
use denote.Struct.Field.{row_field}
use denote.Enum.Declared.{shape as enum_shape}
use Rattle.std.specs.contracts.option.Option.{the_field as option_field, the_type as option_type}
use Rattle.task_set.specs.contracts.job.Job.{the_row as job_row}
use Rattle.task_set.specs.contracts.job.Job.TheInside as job
use Rattle.task_set.specs.contracts.task.Task.{the_row as task_row}
use Rattle.task_set.specs.contracts.task.Task.TheInside as task
use Rattle.task_set.specs.contracts.set.TaskSet.{the_row as set_row}
use Rattle.task_set.specs.contracts.set.TaskSet.TheInside as set
use Rattle.ring_core.proofs.chain.Chain.TheSendSync as chain
use Rattle.ring_core.proofs.chain.Spare.TheSendSync as spare
use Rattle.std.proofs.Crossing.{crosses}
use Rattle.std.proofs.option.Option.TheSendSync as option
use Rattle.unit_log.proofs.kind.StepKind.TheSendSync as kind
use Rattle.command_model.proofs.reply.Reply.TheSendSync as reply
use Rattle.split_ring.specs.contracts.ring.SplitRing.{the_row as split_row}
use Rattle.split_ring.specs.contracts.ring.SplitRing.TheInside as split
use Rattle.packed_ring.specs.contracts.ring.PackedRing.{the_row as packed_row}
use Rattle.packed_ring.specs.contracts.ring.PackedRing.TheInside as packed
use Rattle.virtqueue.specs.contracts.any_ring.AnyRing.{the_field as ring_field, the_type as ring_type}
use Rattle.virtqueue.specs.contracts.queue.Queue.{the_row as queue_row}
use Rattle.virtqueue.specs.contracts.queue.Queue.TheInside as queue
use Rattle.arrayvec.proofs.array_vec.ArrayVec.TheSendSync as array_vec
use Rattle.unit_log.proofs.commits.Commits.TheSendSync as commits
use Rattle.unit_log.specs.contracts.counted.CountedSteps.{the_row as counted_row}
use Rattle.unit_log.specs.contracts.counted.CountedSteps.TheInside as counted
use Rattle.unit_log.proofs.folding.FoldedMark.TheSendSync as mark
use Rattle.unit_log.specs.contracts.folding.Folding.{the_row as folding_row}
use Rattle.unit_log.specs.contracts.folding.Folding.TheInside as folding
use Rattle.unit_log.specs.contracts.ring.KindRing.{the_row as kinds_row}
use Rattle.unit_log.specs.contracts.ring.KindRing.TheInside as kinds
use Rattle.unit_log.specs.contracts.log.StepLog.{the_row as steps_row}
use Rattle.unit_log.specs.contracts.log.StepLog.TheInside as steps
use Rattle.unit_log.specs.contracts.last_tickets.LastTickets.{the_row as lasts_row}
use Rattle.unit_log.specs.contracts.last_tickets.LastTickets.TheInside as lasts
use Rattle.unit_attention.proofs.attentions.Attentions.TheSendSync as attentions
use Rattle.unit_model.specs.contracts.reason.Reason.{the_row as reason_row}
use Rattle.ring_core.specs.contracts.fault.RingFault.{the_row as fault_row}
use Rattle.sense.specs.contracts.Sense.{the_row as sense_row}
use Rattle.request_intake.proofs.unit_request.UnitRequest.TheSendSync as request
use Rattle.task_set.proofs.shared.SharedRequest.TheSendSync as shared
use Rattle.logical_unit.specs.contracts.unit.UnitState.{the_row as unit_row}
use Rattle.logical_unit.specs.contracts.unit.UnitState.TheInside as unit
use Rattle.block_store.proofs.edges.Prepared.TheSendSync as pages
use Rattle.block_store.proofs.paged.PagedStore.TheSendSync as store
use Rattle.backed_store.proofs.cache.Cache.TheSendSync as cache
use Rattle.backed_store.proofs.noted_pages.NotedPages.TheSendSync as noted_pages
use Rattle.backed_store.specs.contracts.backed.BackedStore.{the_field as backed_field, the_type as backed_type}
use Rattle.backed_store.specs.contracts.backed_disk.BackedDisk.{the_field as backed_disk_field, the_type as backed_disk_type}
use Rattle.backed_store.specs.contracts.disk.Disk.{the_field as disk_field, the_type as disk_type}
use Rattle.logical_unit.proofs.changes.Changes.TheSendSync as changes
use Rattle.block_commands.specs.contracts.facts.UnitFacts.{the_field as facts_field, the_type as facts_type}
use Rattle.ring_core.proofs.outstanding.OutstandingTable.TheSendSync as table
use Rattle.ring_core.specs.contracts.base.RingBase.{the_row as base_row}
use Rattle.ring_core.specs.contracts.base.RingBase.TheInside as base
use Rattle.ring_core.specs.contracts.log.QueueLog.{the_row as log_row}
use Rattle.ring_core.specs.contracts.log.QueueLog.TheInside as log
use Rattle.std.specs.declared.sync.ledger.Ledger.{Ghosts}
use Rattle.std.proofs.sync.ledger.Share.TheSendSync as share
use Rattle.lock_scopes.specs.declared.weighing.Weighing.{Ghosts as Weights}
use Rattle.phases.proofs.note.Note.TheSendSync as note
use Rattle.ring_core.specs.contracts.log.Ticket.{the_row as ticket_row}
use Rattle.lock_scopes.specs.contracts.kept_queue.KeptQueue.{the_row as kept_queue_row, the_field as kept_queue_field, the_type as kept_queue_type}
use Rattle.lock_scopes.specs.contracts.counted.CountedUnit.{the_row as counted_unit_row, the_field as counted_unit_field, the_type as counted_unit_type}
use Rattle.lock_scopes.specs.contracts.part.Part.{the_field as part_field, the_type as part_type}

option_sends : (R : RattleType) → IsSend (row_field R).row → IsSend (option_field R).row
option_sends R s = enum_send (enum_shape (option_type R)) (tt, ((s, tt), tt))

job_fields : IsSend job.the_row
job_fields = recorded_send job.the_field.row _ _ job.the_type.to_one
    (struct_send (shape job.the_type) (search sendable, (search sendable depth 60 fits 50000, (chain.the_send, (search sendable, (search sendable, (search sendable depth 60 fits 50000, (search sendable, (search sendable, tt)))))))))

pub job_sends : IsSend job_row
job_sends = search (sendable, job_fields)

task_fields : IsSend task.the_row
task_fields = recorded_send task.the_field.row _ _ task.the_type.to_one
    (struct_send (shape task.the_type) (search sendable, (option_sends _ request.the_send, (option_sends _ shared.the_send, (search sendable, (search sendable, (search sendable, (option_sends reason_row (search sendable depth 60 fits 50000), (search sendable, (option_sends _ job_sends, tt))))))))))

task_sends : IsSend task_row
task_sends = search (sendable, task_fields)

log_fields : IsSend log.the_row
log_fields = recorded_send log.the_field.row _ _ log.the_type.to_one
    (struct_send (shape log.the_type) (search sendable, (search sendable, (search sendable, (search sendable, tt)))))

log_sends : IsSend log_row
log_sends = search (sendable, log_fields)

facts_sends : IsSend facts_field.row
facts_sends = struct_send (shape facts_type) (search sendable, (search sendable, (search crosses depth 30, (option_sends sense_row (search sendable depth 30), (search sendable depth 30, (search sendable depth 60 fits 50000, (search sendable, tt)))))))

base_fields : IsSend base.the_row
base_fields = recorded_send base.the_field.row _ _ base.the_type.to_one
    (struct_send (shape base.the_type) (search sendable, (search sendable, (search sendable, (search sendable depth 30, (search sendable depth 30, (search sendable, (log_sends, (table.the_send, (search sendable, (search sendable, (search sendable, (option_sends fault_row (search sendable depth 30), (option_sends _ spare.the_send, (search crosses depth 30, tt)))))))))))))))

base_sends : IsSend base_row
base_sends = search (sendable, base_fields)

set_fields : IsSend set.the_row
set_fields = recorded_send set.the_field.row _ _ set.the_type.to_one
    (struct_send (shape set.the_type) (search (crosses, array_vec.the_send, task_sends), tt))

set_sends : IsSend set_row
set_sends = search (sendable, set_fields)

folding_fields : IsSend folding.the_row
folding_fields = recorded_send folding.the_field.row _ _ folding.the_type.to_one
    (struct_send (shape folding.the_type) (search sendable, (search sendable, (search sendable, (search (crosses, mark.the_send), (commits.the_send, (search sendable depth 30, tt)))))))

folding_sends : IsSend folding_row
folding_sends = search (sendable, folding_fields)

kinds_fields : IsSend kinds.the_row
kinds_fields = recorded_send kinds.the_field.row _ _ kinds.the_type.to_one
    (struct_send (shape kinds.the_type) (search sendable, (search sendable, (search (crosses, kind.the_send), (search sendable depth 30, tt)))))

kinds_sends : IsSend kinds_row
kinds_sends = search (sendable, kinds_fields)

counted_fields : IsSend counted.the_row
counted_fields = recorded_send counted.the_field.row _ _ counted.the_type.to_one
    (struct_send (shape counted.the_type) (search sendable depth 30, (search sendable depth 30, tt)))

counted_sends : IsSend counted_row
counted_sends = search (sendable, counted_fields)

steps_fields : IsSend steps.the_row
steps_fields = recorded_send steps.the_field.row _ _ steps.the_type.to_one
    (struct_send (shape steps.the_type) (search sendable, (search sendable, (folding_sends, (kinds_sends, (search (crosses, option.the_send, reply.the_send), (counted_sends, tt)))))))

steps_sends : IsSend steps_row
steps_sends = search (sendable, steps_fields)

lasts_fields : IsSend lasts.the_row
lasts_fields = recorded_send lasts.the_field.row _ _ lasts.the_type.to_one
    (struct_send (shape lasts.the_type) (search (crosses, option.the_send) depth 30, tt))

lasts_sends : IsSend lasts_row
lasts_sends = search (sendable, lasts_fields)

backed_sends : IsSend backed_field.row
backed_sends = struct_send (shape backed_type)
    (search sendable, (search sendable, (cache.the_field_send, (search sendable, (noted_pages.the_field_send, (noted_pages.the_field_send, (search crosses depth 30, (search crosses depth 30, tt))))))))

backed_disk_sends : IsSend backed_disk_field.row
backed_disk_sends = struct_send (shape backed_disk_type) (backed_sends, (search sendable, (search crosses depth 30, tt)))

disk_sends : IsSend disk_field.row
disk_sends = enum_send (enum_shape disk_type) ((store.the_field_send, tt), ((backed_disk_sends, tt), tt))

unit_fields : IsSend unit.the_row
unit_fields = declared_send unit.the_type
    (search sendable, (as_row_send facts_field facts_sends, (search sendable, (attentions.the_send, (as_row_send disk_field disk_sends, (search crosses depth 30, (search sendable, (set_sends, (steps_sends, (lasts_sends, (search (crosses, option.the_send) depth 30, (search (crosses, option.the_send) depth 30, (search crosses depth 30, (search (crosses, option.the_send, pages.the_send) depth 30, (changes.the_send, tt)))))))))))))))

pub unit_sends : IsSend unit_row
unit_sends = search (sendable, unit_fields)

split_fields : IsSend split.the_row
split_fields = recorded_send split.the_field.row _ _ split.the_type.to_one (struct_send (shape split.the_type) (base_sends, tt))

split_sends : IsSend split_row
split_sends = search (sendable, split_fields)

packed_fields : IsSend packed.the_row
packed_fields = recorded_send packed.the_field.row _ _ packed.the_type.to_one (struct_send (shape packed.the_type) (base_sends, tt))

packed_sends : IsSend packed_row
packed_sends = search (sendable, packed_fields)

ring_sends : IsSend ring_field.row
ring_sends = enum_send (enum_shape ring_type) ((split_sends, tt), ((packed_sends, tt), tt))

queue_fields : IsSend queue.the_row
queue_fields = recorded_send queue.the_field.row _ _ queue.the_type.to_one
    (struct_send (shape queue.the_type) (search sendable, (ring_sends, (search sendable, (search sendable, tt)))))

pub queue_sends : IsSend queue_row
queue_sends = search (sendable, queue_fields)

kept_queue_fields : IsSend kept_queue_field.row
kept_queue_fields = struct_send (shape kept_queue_type) (queue_sends, (search (crosses, note.the_send), (search crosses depth 30, (option_sends ticket_row (search sendable depth 20), tt))))

pub kept_queue_sends : IsSend kept_queue_row
kept_queue_sends = recorded_send kept_queue_field.row _ _ kept_queue_type.to_one kept_queue_fields

pub part_sends : (L : RattleType) (l : Ghosts L.Denot) → IsSend (part_field L l).row
part_sends L l = struct_send (shape (part_type L l)) (share.the_send L l, tt)

counted_unit_fields : (C W : RattleType) (h : Weights C.Denot) (c : Ghosts C.Denot) (w : Ghosts W.Denot) → IsSend (counted_unit_field C W h c w).row
counted_unit_fields C W h c w = struct_send (shape (counted_unit_type C W h c w)) (unit_sends, (part_sends W w, (part_sends C c, tt)))

pub counted_unit_sends : (C W : RattleType) (h : Weights C.Denot) (c : Ghosts C.Denot) (w : Ghosts W.Denot) → IsSend (counted_unit_row C W h c w)
counted_unit_sends C W h c w = recorded_send (counted_unit_field C W h c w).row _ _ (counted_unit_type C W h c w).to_one (counted_unit_fields C W h c w)
