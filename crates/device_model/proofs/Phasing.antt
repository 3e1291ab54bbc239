-- Each transition does its part on what one lock lends.
use Rattle.std.proofs.Common.{◌≡◌, ℕ, Some}
use Rattle.std.specs.Prelude.{slice_get}
use Rattle.unit_model.specs.Steps.{Step}
use Rattle.unit_model.specs.Unit.{PlainUnit, after as stepped, parking, dealing}
use Rattle.task_mgmt.specs.Functions.{step_by}
use Rattle.device_model.specs.Parts.{Outcome, Slot}
use Rattle.device_model.specs.World.{PlainQueue, PlainWorld, change}
use Rattle.device_model.specs.Transitions.{Transition}
use Rattle.device_model.specs.Event.Hard.{hard_code}
use Rattle.device_model.specs.Changing.{arriving, taking, broken_by, completing, directing, spending}
use Rattle.device_model.specs.After.{after}
use Rattle.device_model.specs.Happens.{Happens}
use Rattle.device_model.specs.Phases.{Under, unit_of, AsksUnit, unit_after, queue_of, AsksQueue, queue_after}
use Rattle.device_model.proofs.Lists.{get_change}

-- on the unit
abbrev pub UnitPart : Transition → PlainWorld → ℕ → Type 0
UnitPart d w i =
    (u : PlainUnit) × (slice_get w.units i ≡ Some u) × AsksUnit d u
    × (slice_get (after d w).units i ≡ Some (unit_after d u))

pub unit_part : (d : Transition) (w : PlainWorld) → Happens d w → Under (unit_of d) (UnitPart d w)
unit_part (Transition.Run x) w h =
    let u = h.comes.unit in let at = h.comes.unit_there in
    (u, at, (h.named, h.may, h.blocked), get_change (stepped (Step.Enter x.entry)) x.unit w.units u at)
unit_part (Transition.Park x) w h =
    let u = h.comes.unit in let at = h.comes.unit_there in
    (u, at, (h.named, h.may, h.blocked), get_change (parking x) x.unit w.units u at)
unit_part (Transition.EnterFull x) w h =
    let u = h.comes.unit in let at = h.comes.unit_there in
    (u, at, (h.named, h.may), get_change (stepped (Step.Full x.entry.ticket)) x.unit w.units u at)
unit_part (Transition.EnterBusy x) w h = (h.comes.unit, h.comes.unit_there, (h.named, h.fresh), h.comes.unit_there)
unit_part (Transition.Commit k x r) w h =
    let u = h.holds.unit in let at = h.holds.there in
    (u, at, h.may, get_change (stepped (Step.Commit x.entry.ticket r)) x.unit w.units u at)
unit_part (Transition.CommitBusy k x) w h =
    let u = h.holds.unit in let at = h.holds.there in
    (u, at, (h.may, h.wants), get_change (stepped (Step.Busy x.entry.ticket)) x.unit w.units u at)
unit_part (Transition.CommitAborted k x why) w h = (h.holds.unit, h.holds.there, (h.alive, h.marked), h.holds.there)
unit_part (Transition.Defer k x) w h = (h.holds.unit, h.holds.there, (h.entry, h.waits), h.holds.there)
unit_part (Transition.Withhold k x r) w h =
    let u = h.holds.unit in let at = h.holds.there in
    (u, at, h.may, get_change (stepped (Step.Commit x.entry.ticket r)) x.unit w.units u at)
unit_part (Transition.Conclude k x r) w h = (h.holds.unit, h.holds.there, h.may, h.holds.there)
unit_part (Transition.Leave k unit_index t jobs) w h =
    let u = h.holds.unit in let at = h.holds.there in
    (u, at, (h.may, h.enables), get_change (stepped (Step.Leave t)) unit_index w.units u at)
unit_part (Transition.Mark t p m jobs) w h =
    let u = h.marking.unit in let at = h.marking.unit_there in
    (u, at, (h.before, h.releases), get_change (stepped (step_by m)) p.unit w.units u at)
unit_part (Transition.Ask t unit_index rule b) w h = (h.marking.unit, h.marking.unit_there, h.is, h.marking.unit_there)
unit_part (Transition.Check t p) w h = (h.unit, h.there, h.clear, h.there)
unit_part (Transition.Hard p jobs) w h = (
  h.unit,
  h.there,
  (h.before, h.releases),
  get_change (stepped (Step.Reset hard_code)) p.unit w.units h.unit h.there,
)
unit_part (Transition.Resize unit_index blocks) w h =
    (h.unit, h.there, h.may, get_change (stepped (Step.Resize blocks)) unit_index w.units h.unit h.there)
unit_part (Transition.Deal unit_index x) w h =
    (h.unit, h.there, h.may, get_change (dealing x) unit_index w.units h.unit h.there)
unit_part (Transition.EnterStale x) w h = absurd h
unit_part (Transition.CommitUnknown k x) w h = absurd h
unit_part (Transition.Idle e) w h = absurd h
unit_part d w h = tt

-- on the queue and the memory
abbrev pub QueuePart : Transition → PlainWorld → ℕ → Type 0
QueuePart d w i =
    (q : PlainQueue) × (slice_get w.queues i ≡ Some q) × AsksQueue w.shared w.inventory w.missed d q w.memory
    × (slice_get (after d w).queues i ≡ Some (queue_after d w.memory q))

-- one queue is changed
at_queue : (g : PlainQueue → PlainQueue) (i : ℕ) (w : PlainWorld) (q : PlainQueue) → slice_get w.queues i ≡ Some q
    → slice_get (change g i w.queues) i ≡ Some (g q)
at_queue g i w q at = get_change g i w.queues q at

pub queue_part : (d : Transition) (w : PlainWorld) → Happens d w → Under (queue_of d) (QueuePart d w)
queue_part (Transition.Arrive f x) w h =
    let q = h.finds.queue in let at = h.finds.there in (
      q,
      at,
      (h.finds.taken, h.chain, h.ticket, h.decided, h.addressed),
      at_queue (arriving f.chain (Slot.Arrived x)) f.chain.ticket.queue w q at,
    )
queue_part (Transition.Refuse f a) w h =
    let q = h.finds.queue in let at = h.finds.there in (
      q,
      at,
      (h.finds.taken, h.decided),
      at_queue (arriving f.chain (Slot.Direct f.chain (Outcome.Decided a))) f.chain.ticket.queue w q at,
    )
queue_part (Transition.Open f g) w h =
    let q = h.finds.queue in let at = h.finds.there in
    (q, at, (h.finds.taken, h.decided), at_queue (taking f.chain) f.chain.ticket.queue w q at)
queue_part (Transition.Hold f) w h =
    let q = h.finds.queue in let at = h.finds.there in
    (q, at, (h.finds.taken, h.decided), at_queue (taking f.chain) f.chain.ticket.queue w q at)
queue_part (Transition.UseBuffer f xs) w h =
    let q = h.finds.queue in let at = h.finds.there in (
      q,
      at,
      (h.finds.taken, h.decided, h.writes, h.seen),
      at_queue (spending xs.seen f.chain) f.chain.ticket.queue w q at,
    )
queue_part (Transition.Break i n) w h =
    (h.queue, h.there, (h.whole, h.offered), at_queue (broken_by n) i w h.queue h.there)
queue_part (Transition.Direct c o xs) w h = (
  h.queue,
  h.there,
  (h.writes, h.seen),
  at_queue (directing xs.seen c) c.ticket.queue w h.queue h.there,
)
queue_part (Transition.Answer k x o xs) w h = (
  h.queue,
  h.there,
  (h.writes, h.seen),
  at_queue (completing xs.seen x.chain) x.chain.ticket.queue w h.queue h.there,
)
queue_part (Transition.Respond c r xs) w h = (
  h.queue,
  h.there,
  (h.writes, h.seen),
  at_queue (completing xs.seen c) c.ticket.queue w h.queue h.there,
)
queue_part (Transition.Give e c xs) w h = (
  h.queue,
  h.there,
  (h.writes, h.seen),
  at_queue (completing xs.seen c) c.ticket.queue w h.queue h.there,
)
queue_part (Transition.EnterStale x) w h = absurd h
queue_part (Transition.CommitUnknown k x) w h = absurd h
queue_part (Transition.Idle e) w h = absurd h
queue_part d w h = tt
