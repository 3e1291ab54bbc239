-- Which tickets of a closed host are outstanding. The queue of a ticket is the one at the index that it names.
use Rattle.std.specs.Prelude.{ℕ, ◌+◌, Bool, true, false, not, nat_lt, nat_le, ◌==◌, ◌&&◌, ◌||◌, List, length, Option, Some, None, slice_get, count_by}
use Rattle.std.specs.List.{list_any, list_all}
use Rattle.ring_core.specs.declared.log.Ticket.{Ticket}
use Rattle.unit_model.specs.Tasks.{same_ticket}
use Rattle.unit_model.specs.Steps.{Step, has_entered, has_left}
use Rattle.unit_model.specs.Base.{base_of, kept_steps, folded_steps}
use Rattle.unit_model.specs.Marks.{marked}
use Rattle.unit_model.specs.Receipts.{Receipt}
use Rattle.unit_model.specs.Unit.{PlainUnit}
use Rattle.virtqueue.specs.Queue.{BareQueue}
use Rattle.phases.specs.Notes.{PlainNote}
use Rattle.phases.specs.declared.note.Cause.{Cause}
use Rattle.phases.specs.declared.note.Cause.TheVariants as cause
use Rattle.close_audit.specs.Words.{has_busy, has_full, has_run, has_step, in_two}

-- how many chains a queue accepted, if there is one
abbrev pub count_accepted : Option BareQueue → ℕ
count_accepted None = 0
count_accepted (Some q) = length q.ring.log.accepted

abbrev pub is_accepted : List BareQueue → Ticket → Bool
is_accepted queues t = nat_lt t.number (count_accepted (slice_get queues t.queue))

-- a queue, if there is one, used the chain of a ticket
abbrev pub uses : Option BareQueue → Ticket → Bool
uses None t = false
uses (Some q) t = list_any (λ (u : Ticket). same_ticket u t) q.ring.log.used

abbrev pub is_used : List BareQueue → Ticket → Bool
is_used queues t = uses (slice_get queues t.queue) t

-- own: the chain is to be used: one of a request queue or of the control queue, and no buffer for events (VIRTIO 1.2,
-- 5.6.2)
abbrev pub is_asked : List BareQueue → Ticket → Bool
is_asked queues t = not (t.queue == 1) && is_accepted queues t

-- the ticket is that of a request: queues 2 and up are request queues (VIRTIO 1.2, 5.6.2)
abbrev pub is_request : List BareQueue → Ticket → Bool
is_request queues t = nat_le 2 t.queue && is_accepted queues t

-- own: how many receipts and notes a ticket has
abbrev pub answers : List Receipt → List PlainNote → Ticket → ℕ
answers receipts notes t =
    count_by (λ (c : Receipt). same_ticket c.ticket t) receipts
    + count_by (λ (n : PlainNote). same_ticket n.ticket t) notes

-- own: some unit's oldest steps are folded
abbrev pub any_folded : List PlainUnit → Bool
any_folded units = list_any (λ (u : PlainUnit). nat_lt 0 (base_of u.steps)) units

-- own: the Commit of the task is folded, of a unit that knows its folded Commits: one that keeps replies
abbrev pub is_folded_in : Ticket → PlainUnit → Bool
is_folded_in t u = u.keeps_replies && has_run t (folded_steps u.steps)

-- own: a unit keeps the Commit of the task, or knows that it is folded; and so of any step of the task
abbrev pub has_run_in : Ticket → PlainUnit → Bool
has_run_in t u = has_run t (kept_steps u.steps) || is_folded_in t u

abbrev pub has_step_in : Ticket → PlainUnit → Bool
has_step_in t u = has_step t (kept_steps u.steps) || is_folded_in t u

-- own: among the steps that some unit keeps one by one are the task's Enter, the request's Full; or its Commit, which may
-- be folded
abbrev pub any_entered : List PlainUnit → Ticket → Bool
any_entered units t = list_any (λ (u : PlainUnit). has_entered t (kept_steps u.steps)) units

abbrev pub any_run : List PlainUnit → Ticket → Bool
any_run units t = list_any (has_run_in t) units

abbrev pub any_full : List PlainUnit → Ticket → Bool
any_full units t = list_any (λ (u : PlainUnit). has_full t (kept_steps u.steps)) units

-- own: two units keep steps of the task, or know its folded Commit
abbrev pub is_astray : List PlainUnit → Ticket → Bool
is_astray units t = in_two (has_step_in t) units

-- own: the task left each unit that it entered
abbrev pub all_left : List PlainUnit → Ticket → Bool
all_left units t = list_all (λ (u : PlainUnit). not (has_entered t u.steps) || has_left t u.steps) units

-- own: the history of each unit that keeps the Enter of a ticket passes a test
abbrev pub where_entered : List PlainUnit → Ticket → (List Step → Bool) → Bool
where_entered units t test =
    list_all (λ (u : PlainUnit). not (has_entered t (kept_steps u.steps)) || test u.steps) units

-- own: a cause is of what became of a task in a history: BUSY of its Busy, an abort of its mark, and no other
abbrev pub is_of : Cause → Ticket → List Step → Bool
is_of cause.Busy t h = has_busy t h
is_of cause.Aborted t h = marked t h
is_of cause.Full t h = false
is_of cause.Direct t h = false
is_of cause.Stale t h = false
is_of cause.Unknown t h = false

-- own: what a note of a cause has to have: an abort the Enter of its task, TASK SET FULL its Full, unless that may be
-- folded; two causes never occur
abbrev pub is_founded : List PlainUnit → Cause → Ticket → Bool
is_founded units cause.Aborted t = any_entered units t || any_folded units
is_founded units cause.Full t = any_full units t || any_folded units
is_founded units cause.Busy t = true
is_founded units cause.Direct t = true
is_founded units cause.Stale t = false
is_founded units cause.Unknown t = false

-- own: a note of that cause is right for a ticket: it is founded, no unit knows a Commit of the ticket, and it is of what
-- became of its task where that entered
abbrev pub is_right : List PlainUnit → Ticket → Cause → Bool
is_right units t why =
    is_founded units why t && (not (any_run units t) && where_entered units t (λ h. is_of why t h))

abbrev pub are_right : List PlainUnit → List PlainNote → Ticket → Bool
are_right units notes t = list_all (λ (n : PlainNote). not (same_ticket n.ticket t) || is_right units t n.cause) notes

-- own: where a task with a receipt entered, it ran
abbrev pub has_run_there : List PlainUnit → List Receipt → Ticket → Bool
has_run_there units receipts t =
    list_all (λ (c : Receipt). not (same_ticket c.ticket t) || where_entered units t (λ h. has_run t h)) receipts

-- own: a request is settled: it has one receipt or note, it left where it entered, no two units have steps of it, and
-- its receipt or its note is right
abbrev pub is_settled : List PlainUnit → List Receipt → List PlainNote → Ticket → Bool
is_settled units receipts notes t =
    (answers receipts notes t == 1)
    && (all_left units t
    && (not (is_astray units t) && (has_run_there units receipts t && are_right units notes t)))

-- own: a receipt or a note has this ticket
abbrev pub has_answer : List Receipt → List PlainNote → Ticket → Bool
has_answer receipts notes t =
    list_any (λ (c : Receipt). same_ticket c.ticket t) receipts
    || list_any (λ (n : PlainNote). same_ticket n.ticket t) notes
