use Rattle.std.proofs.Common.{◌≡◌, List, [], refl}
use Rattle.ring_core.specs.Writes.{Write, stores_of}
use Rattle.phases.specs.Slots.{slot_of}
use Rattle.phases.proofs.AtOnce.{served, only_entered, ready_entered, waits_on}
use Rattle.phases.proofs.Stored.{none_stored}
use Rattle.phases.proofs.Enters.{parks, overflows, sheds, stalls}
use Rattle.phases.proofs.serving.serve_by_steps.Goals as goal

pub commit_at_once-requires : goal.commit_at_once-requires
commit_at_once-requires g c =
    ready_entered c.args.unit.now c.enter.new.self c.args.arrival c.in-Run.job c.stands.ensures c.in-Run.ensures

pub returns-in-Some-clause-serves : goal.returns-in-Some-clause-serves
returns-in-Some-clause-serves g c =
    let earlier = g.M.Memory.stored c.args.memory.now in
    let later = g.M.Memory.stored c.answer_job-answered.new.memory in
    served g.M.Memory.shared (λ ws. later ≡ g.M.Memory.storing earlier (stores_of ws)) c.args.arrival c.in-Run.job c.answer_job-answered.result c.args.unit.now c.enter.new.self
    c.commit_at_once.new.self c.leave.new.unit c.args.queue.now c.answer_job-answered.new.queue
    (g.M.Memory.may_be c.args.memory.now) (g.M.Memory.may_be c.answer_job-answered.new.memory) (slot_of c.args.slot.now)
    c.args.out.now c.leave.new.out c.leave.result c.in-Some.outcome c.in-Run.ensures c.in-Some.ensures.step
    c.answer_job-answered.ensures.ticket c.answer_job-answered.ensures.answers
    c.answer_job-answered.ensures.stores (rw c.keep_room.ensures at c.leave.ensures)

pub returns-in-None-clause-serves : goal.returns-in-None-clause-serves
returns-in-None-clause-serves g c =
    let known = g.M.Memory.stored c.args.memory.now in
    let stored : List Write → Type 0 = λ ws. known ≡ g.M.Memory.storing known (stores_of ws) in
    waits_on g.M.Memory.shared stored c.args.arrival c.in-Run.job c.args.unit.now c.enter.new.self c.commit_at_once.new.self
    c.args.queue.now (g.M.Memory.may_be c.args.memory.now) (slot_of c.args.slot.now) (slot_of c.args.slot.now) c.args.out.now
    c.push.new.self (none_stored g.M.Memory.storing g.met.M.Memory.none known [] refl) c.requires.empty c.in-Run.ensures
    c.in-None.ensures.waits c.push.ensures

pub returns-in-Parked-clause-serves : goal.returns-in-Parked-clause-serves
returns-in-Parked-clause-serves g c =
    let known = g.M.Memory.stored c.args.memory.now in
    let stored : List Write → Type 0 = λ ws. known ≡ g.M.Memory.storing known (stores_of ws) in
    only_entered g.M.Memory.shared stored c.args.arrival c.args.unit.now c.enter.new.self c.args.queue.now
    (g.M.Memory.may_be c.args.memory.now) (slot_of c.args.slot.now) (slot_of c.args.slot.now) c.args.out.now
    (none_stored g.M.Memory.storing g.met.M.Memory.none known [] refl)
    (λ list. rw c.requires.empty (parks c.args.arrival c.args.unit.now c.enter.new.self list c.in-Parked.ensures))

pub returns-in-Full-clause-serves : goal.returns-in-Full-clause-serves
returns-in-Full-clause-serves g c =
    let known = g.M.Memory.stored c.args.memory.now in
    let stored : List Write → Type 0 = λ ws. known ≡ g.M.Memory.storing known (stores_of ws) in
    only_entered g.M.Memory.shared stored c.args.arrival c.args.unit.now c.enter.new.self c.args.queue.now
    (g.M.Memory.may_be c.args.memory.now) (slot_of c.args.slot.now) _ c.args.out.now
    (none_stored g.M.Memory.storing g.met.M.Memory.none known [] refl)
    (λ list. rw c.refused.ensures
    (overflows c.args.arrival c.args.unit.now c.enter.new.self list c.in-Full.job c.in-Full.ensures))

pub returns-in-Busy-clause-serves : goal.returns-in-Busy-clause-serves
returns-in-Busy-clause-serves g c =
    let known = g.M.Memory.stored c.args.memory.now in
    let stored : List Write → Type 0 = λ ws. known ≡ g.M.Memory.storing known (stores_of ws) in
    only_entered g.M.Memory.shared stored c.args.arrival c.args.unit.now c.enter.new.self c.args.queue.now
    (g.M.Memory.may_be c.args.memory.now) (slot_of c.args.slot.now) _ c.args.out.now
    (none_stored g.M.Memory.storing g.met.M.Memory.none known [] refl)
    (λ list. rw c.refused-in-Busy.ensures
    (sheds c.args.arrival c.args.unit.now c.enter.new.self list c.in-Busy.job c.in-Busy.ensures))

pub returns-in-Stale-clause-serves : goal.returns-in-Stale-clause-serves
returns-in-Stale-clause-serves g c =
    let known = g.M.Memory.stored c.args.memory.now in
    let stored : List Write → Type 0 = λ ws. known ≡ g.M.Memory.storing known (stores_of ws) in
    only_entered g.M.Memory.shared stored c.args.arrival c.args.unit.now c.enter.new.self c.args.queue.now
    (g.M.Memory.may_be c.args.memory.now) (slot_of c.args.slot.now) _ c.args.out.now
    (none_stored g.M.Memory.storing g.met.M.Memory.none known [] refl)
    (λ list. rw c.refused-in-Stale.ensures
    (stalls c.args.arrival c.args.unit.now c.enter.new.self list c.in-Stale.job c.in-Stale.ensures))
