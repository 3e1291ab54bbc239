-- A post may go to another thread, and threads may share what a host has. The search alone finds it of small types only.
use denote.Param.Send.{IsSend, IsSync, sendable, recorded_send, struct_send, enum_send}
use denote.Param.SendFields.{declared_send, declared_sync}
use denote.RattleType.{RattleType}
use denote.Struct.Declared.{shape}
use denote.Struct.Field.{row_field}
use denote.Enum.Declared.{shape as enum_shape}
use Rattle.std.proofs.Crossing.{crosses, send, sync, frees, Vec-send}
use Rattle.std.specs.contracts.sync.Mutex.{the_row as mutex_row}
use Rattle.lock_scopes.specs.contracts.counted.CountedUnit.{the_row as counted_unit_row}
use Rattle.std.specs.contracts.option.Option.{the_field as option_field, the_type as option_type}
use Rattle.handoff.proofs.Crossing.{job_sends, seat_sends}
use Rattle.close_audit.proofs.Crossing.{kept_sends}
use Rattle.task_set.specs.contracts.job.JobList.{the_row as list_row}
use Rattle.task_set.specs.contracts.job.JobList.TheInside as list
use Rattle.ring_core.proofs.answered.Answered.TheSendSync as answered
use Rattle.logical_unit.proofs.outcomes.Outcome.TheSendSync as outcome
use Rattle.logical_unit.proofs.pages.PreparedWrite.TheSendSync as pages
use Rattle.block_store.proofs.edges.Prepared.TheSendSync as spare
use Rattle.phases.specs.contracts.job_in_hand.JobInHand.{the_row as held_row}
use Rattle.phases.specs.contracts.job_in_hand.JobInHand.TheInside as held
use Rattle.phases.specs.contracts.hand.Hand.{the_field as hand_field, the_type as hand_type}
use Rattle.lock_scopes.proofs.Crossing.{counted_unit_sends, part_sends, kept_queue_sends}
use Rattle.guest_mem.proofs.memory.GuestMem.TheSendSync as memory
use Rattle.worker_steps.proofs.bell.Bell.TheSendSync as bell
use Rattle.crossbeam_utils.proofs.cache_padded.CachePadded.TheSendSync as padded
use Rattle.event_queue.proofs.Crossing.{port_sends}
use Rattle.request_intake.proofs.inventory.Inventory.TheSendSync as inventory
use Rattle.std.proofs.option.Option.TheSendSync as option
use Rattle.crossbeam_queue.proofs.array_queue.Slotted.TheSendSync as slotted
use Rattle.handoff.specs.contracts.lane.Lane.{the_row as lane_row}
use Rattle.handoff.specs.contracts.lane.Lane.TheInside as lane
use Rattle.handoff.specs.contracts.queue.Handoff.{the_row as handoff_row}
use Rattle.handoff.specs.contracts.queue.Handoff.TheInside as handoff
use Rattle.worker_steps.specs.contracts.shared.Shared.{the_row as shared_row, the_type as shared_type}
use Rattle.ring_core.specs.contracts.log.Ticket.{the_row as ticket_row}
use Rattle.std.specs.declared.sync.ledger.Ledger.{Ghosts}
use Rattle.lock_scopes.specs.declared.weighing.Weighing.{Ghosts as Weights}
use Rattle.worker_steps.specs.contracts.post.Post.{the_row as post_row, the_field as post_field, the_type as post_type}

option_sends : (R : RattleType) → IsSend (row_field R).row → IsSend (option_field R).row
option_sends R s = enum_send (enum_shape (option_type R)) (tt, ((s, tt), tt))

list_fields : IsSend list.the_row
list_fields = recorded_send list.the_field.row _ _ list.the_type.to_one
    (struct_send (shape list.the_type) (search (crosses, job_sends), (search sendable, tt)))

list_sends : IsSend list_row
list_sends = search (sendable, list_fields)

held_fields : IsSend held.the_row
held_fields = recorded_send held.the_field.row _ _ held.the_type.to_one
    (struct_send (shape held.the_type) (job_sends, (option_sends _ pages.the_send, (option_sends _ spare.the_send, (option_sends _ outcome.the_send, tt)))))

held_sends : IsSend held_row
held_sends = search (sendable, held_fields)

hand_sends : IsSend hand_field.row
hand_sends = enum_send (enum_shape hand_type) (tt, ((held_sends, tt), ((search sendable, (answered.the_send, tt)), tt)))

pub ticket_sends : IsSend (option_field ticket_row).row
ticket_sends = option_sends ticket_row (search sendable depth 20)

post_fields : (W : RattleType) (w : Ghosts W.Denot) → IsSend (post_field W w).row
post_fields W w = struct_send (shape (post_type W w))
    (seat_sends, (list_sends, (hand_sends, (kept_sends, (part_sends W w, (search sendable, (ticket_sends, tt)))))))

pub post_sends : (W : RattleType) (w : Ghosts W.Denot) → IsSend (post_row W w)
post_sends W w = recorded_send (post_field W w).row _ _ (post_type W w).to_one (post_fields W w)

lane_fields_sync : IsSync lane.the_row
lane_fields_sync = declared_sync lane.the_type
    (search (sendable, slotted.the_sync, option.the_send, job_sends, send, sync, frees) depth 20, tt)

lane_syncs : IsSync lane_row
lane_syncs = search (sendable, lane_fields_sync)

handoff_fields_sync : IsSync handoff.the_row
handoff_fields_sync = declared_sync handoff.the_type (search (crosses, lane_syncs), (search sendable, tt))

handoff_syncs : IsSync handoff_row
handoff_syncs = search (sendable, handoff_fields_sync)

lane_fields_send : IsSend lane.the_row
lane_fields_send = declared_send lane.the_type
    (search (sendable, slotted.the_send, option.the_send, job_sends, send, frees) depth 20, tt)

lane_sends : IsSend lane_row
lane_sends = search (sendable, lane_fields_send)

handoff_fields_send : IsSend handoff.the_row
handoff_fields_send = declared_send handoff.the_type (search (crosses, lane_sends), (search sendable, tt))

handoff_sends : IsSend handoff_row
handoff_sends = search (sendable, handoff_fields_send)

-- threads may share what a host has, where they may share its gate
pub shared_syncs : (G C W : RattleType) (h : Weights C.Denot) (c : Ghosts C.Denot) (w : Ghosts W.Denot) → IsSync G → IsSync (shared_row G C W h c w)
shared_syncs G C W h c w gate = declared_sync (shared_type G C W h c w) (
  search (crosses, counted_unit_sends C W h c w) depth 20,
  (
    search (crosses, kept_queue_sends),
    (
      search (crosses, port_sends),
      (
        inventory.the_sync,
        (
          handoff_syncs,
          (
            search (sendable, gate),
            (
              search (sendable, crosses) depth 20,
              (
                search (sendable, crosses) depth 20,
                (
                  bell.the_sync,
                  (
                    search (sendable, crosses) depth 20,
                    (search (crosses, padded.the_sync, memory.the_send), tt),
                  ),
                ),
              ),
            ),
          ),
        ),
      ),
    ),
  ),
)

-- and what one thread has of it may go to another
pub shared_sends : (G C W : RattleType) (h : Weights C.Denot) (c : Ghosts C.Denot) (w : Ghosts W.Denot) → IsSend G → IsSend (shared_row G C W h c w)
shared_sends G C W h c w gate = declared_send (shared_type G C W h c w) (
  Vec-send (mutex_row (counted_unit_row C W h c w)) (search (crosses, counted_unit_sends C W h c w)),
  (
    search (crosses, kept_queue_sends),
    (
      search (crosses, port_sends),
      (
        inventory.the_send,
        (
          handoff_sends,
          (
            search (sendable, gate),
            (
              search (sendable, crosses) depth 20,
              (
                search (sendable, crosses) depth 20,
                (
                  bell.the_send,
                  (
                    search (sendable, crosses) depth 20,
                    (search (crosses, padded.the_send, memory.the_send), tt),
                  ),
                ),
              ),
            ),
          ),
        ),
      ),
    ),
  ),
)
