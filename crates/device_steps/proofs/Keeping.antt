-- What a transition leaves of each queue and each unit as it was.
use Rattle.std.proofs.Common.{◌≡◌, ℕ, List, [], ◌∷◌, refl, ap, zero, suc}
use Rattle.std.specs.Prelude.{map}
use Rattle.ring_core.specs.declared.layout.Layout.{Layout}
use Rattle.unit_model.specs.Steps.{Step}
use Rattle.unit_model.specs.Endings.{Ending}
use Rattle.unit_model.specs.Unit.{PlainUnit, is_backed, after as stepped, parking, dealing}
use Rattle.task_mgmt.specs.Functions.{step_by}
use Rattle.device_model.specs.Parts.{Outcome, Slot}
use Rattle.device_model.specs.World.{PlainQueue, PlainWorld, change}
use Rattle.device_model.specs.Transitions.{Transition}
use Rattle.device_model.specs.Changing.{arriving, taking, spending, broken_by, slotted, directing, completing}
use Rattle.device_model.specs.Event.Hard.{hard_code}
use Rattle.device_model.specs.After.{after}
use Rattle.device_model.proofs.Aside.{backed_mark, backed_resize, backed_deal}
use Rattle.device_steps.specs.Sound.{size_of, lun_of}

-- what a change keeps of the item
map_change : {X Y : Type 0} (f : X → Y) (g : X → X) (k : ℕ) (xs : List X) → ((x : X) → f (g x) ≡ f x)
    → map f (change g k xs) ≡ map f xs
map_change f g k [] same = refl
map_change f g zero (x ∷ xs) same = ap (λ y. y ∷ map f xs) (same x)
map_change f g (suc k) (x ∷ xs) same = ap (λ ys. f x ∷ ys) (map_change f g k xs same)

-- each ring has the memory that it was made for, and its layout
pub rings_stay : {X : Type 0} (look : ℕ → Layout → X) (d : Transition) (w : PlainWorld)
    → map (λ (q : PlainQueue). look q.ring.memory q.ring.layout) (after d w).queues
    ≡ map (λ (q : PlainQueue). look q.ring.memory q.ring.layout) w.queues
rings_stay look (Transition.Poke x) w = refl
rings_stay look (Transition.Arrive f x) w = map_change (λ (q : PlainQueue). look q.ring.memory q.ring.layout) (arriving f.chain (Slot.Arrived x)) f.chain.ticket.queue w.queues (λ (q : PlainQueue). refl)
rings_stay look (Transition.Refuse f a) w = map_change (λ (q : PlainQueue). look q.ring.memory q.ring.layout) (arriving f.chain (Slot.Direct f.chain (Outcome.Decided a))) f.chain.ticket.queue w.queues (λ (q : PlainQueue). refl)
rings_stay look (Transition.Open f g) w = map_change (λ (q : PlainQueue). look q.ring.memory q.ring.layout) (taking f.chain) f.chain.ticket.queue w.queues (λ (q : PlainQueue). refl)
rings_stay look (Transition.Hold f) w = map_change (λ (q : PlainQueue). look q.ring.memory q.ring.layout) (taking f.chain) f.chain.ticket.queue w.queues (λ (q : PlainQueue). refl)
rings_stay look (Transition.UseBuffer f xs) w = map_change (λ (q : PlainQueue). look q.ring.memory q.ring.layout) (spending xs.seen f.chain) f.chain.ticket.queue w.queues (λ (q : PlainQueue). refl)
rings_stay look (Transition.Break q n) w = map_change (λ (q : PlainQueue). look q.ring.memory q.ring.layout) (broken_by n) q w.queues (λ (q : PlainQueue). refl)
rings_stay look (Transition.Run x) w = map_change (λ (q : PlainQueue). look q.ring.memory q.ring.layout) (slotted Slot.Empty) x.chain.ticket.queue w.queues (λ (q : PlainQueue). refl)
rings_stay look (Transition.Park x) w = map_change (λ (q : PlainQueue). look q.ring.memory q.ring.layout) (slotted Slot.Empty) x.chain.ticket.queue w.queues (λ (q : PlainQueue). refl)
rings_stay look (Transition.EnterFull x) w = map_change (λ (q : PlainQueue). look q.ring.memory q.ring.layout) (slotted (Slot.Direct x.chain (Outcome.Ended Ending.Full))) x.chain.ticket.queue w.queues (λ (q : PlainQueue). refl)
rings_stay look (Transition.EnterBusy x) w = map_change (λ (q : PlainQueue). look q.ring.memory q.ring.layout) (slotted (Slot.Direct x.chain (Outcome.Ended Ending.Busy))) x.chain.ticket.queue w.queues (λ (q : PlainQueue). refl)
rings_stay look (Transition.EnterStale x) w = map_change (λ (q : PlainQueue). look q.ring.memory q.ring.layout) (slotted (Slot.Direct x.chain (Outcome.Ended Ending.Lost))) x.chain.ticket.queue w.queues (λ (q : PlainQueue). refl)
rings_stay look (Transition.Direct c o xs) w = map_change (λ (q : PlainQueue). look q.ring.memory q.ring.layout) (directing xs.seen c) c.ticket.queue w.queues (λ (q : PlainQueue). refl)
rings_stay look (Transition.Put k x) w = refl
rings_stay look (Transition.Keep k x) w = refl
rings_stay look (Transition.Take k from x) w = refl
rings_stay look (Transition.Commit k x r) w = refl
rings_stay look (Transition.CommitBusy k x) w = refl
rings_stay look (Transition.CommitAborted k x why) w = refl
rings_stay look (Transition.CommitUnknown k x) w = refl
rings_stay look (Transition.Defer k x) w = refl
rings_stay look (Transition.Withhold k x r) w = refl
rings_stay look (Transition.Conclude k x r) w = refl
rings_stay look Transition.Wake w = refl
rings_stay look (Transition.Resume k x) w = refl
rings_stay look (Transition.Answer k x o xs) w = map_change (λ (q : PlainQueue). look q.ring.memory q.ring.layout) (completing xs.seen x.chain) x.chain.ticket.queue w.queues (λ (q : PlainQueue). refl)
rings_stay look (Transition.Leave k u t jobs) w = refl
rings_stay look (Transition.Mark t p m jobs) w = refl
rings_stay look (Transition.Ask t u rule b) w = refl
rings_stay look (Transition.MarkRefused t) w = refl
rings_stay look (Transition.Check t p) w = refl
rings_stay look (Transition.Respond c r xs) w = map_change (λ (q : PlainQueue). look q.ring.memory q.ring.layout) (completing xs.seen c) c.ticket.queue w.queues (λ (q : PlainQueue). refl)
rings_stay look (Transition.Hard p jobs) w = refl
rings_stay look (Transition.Resize unit_index blocks) w = refl
rings_stay look (Transition.Deal unit_index x) w = refl
rings_stay look (Transition.Give e c xs) w = map_change (λ (q : PlainQueue). look q.ring.memory q.ring.layout) (completing xs.seen c) c.ticket.queue w.queues (λ (q : PlainQueue). refl)
rings_stay look (Transition.Miss e) w = refl
rings_stay look (Transition.Idle e) w = refl

-- each queue has its size
pub sizes_stay : (d : Transition) (w : PlainWorld) → map size_of (after d w).queues ≡ map size_of w.queues
sizes_stay = rings_stay (λ (m : ℕ) (l : Layout). l.size)

-- and the size of its memory
abbrev pub room_of : PlainQueue → ℕ
room_of q = q.ring.memory

pub rooms_stay : (d : Transition) (w : PlainWorld) → map room_of (after d w).queues ≡ map room_of w.queues
rooms_stay = rings_stay (λ (m : ℕ) (l : Layout). m)

-- each unit has its LUN
pub luns_stay : (d : Transition) (w : PlainWorld) → map lun_of (after d w).units ≡ map lun_of w.units
luns_stay (Transition.Poke x) w = refl
luns_stay (Transition.Arrive f x) w = refl
luns_stay (Transition.Refuse f a) w = refl
luns_stay (Transition.Open f g) w = refl
luns_stay (Transition.Hold f) w = refl
luns_stay (Transition.UseBuffer f xs) w = refl
luns_stay (Transition.Break q n) w = refl
luns_stay (Transition.Run x) w = map_change lun_of (stepped (Step.Enter x.entry)) x.unit w.units (λ (u : PlainUnit). refl)
luns_stay (Transition.Park x) w = map_change lun_of (parking x) x.unit w.units (λ (u : PlainUnit). refl)
luns_stay (Transition.EnterFull x) w = map_change lun_of (stepped (Step.Full x.entry.ticket)) x.unit w.units (λ (u : PlainUnit). refl)
luns_stay (Transition.EnterBusy x) w = refl
luns_stay (Transition.EnterStale x) w = refl
luns_stay (Transition.Direct c o xs) w = refl
luns_stay (Transition.Put k x) w = refl
luns_stay (Transition.Keep k x) w = refl
luns_stay (Transition.Take k from x) w = refl
luns_stay (Transition.Commit k x r) w = map_change lun_of (stepped (Step.Commit x.entry.ticket r)) x.unit w.units (λ (u : PlainUnit). refl)
luns_stay (Transition.CommitBusy k x) w = map_change lun_of (stepped (Step.Busy x.entry.ticket)) x.unit w.units (λ (u : PlainUnit). refl)
luns_stay (Transition.CommitAborted k x why) w = refl
luns_stay (Transition.CommitUnknown k x) w = refl
luns_stay (Transition.Defer k x) w = refl
luns_stay (Transition.Withhold k x r) w = map_change lun_of (stepped (Step.Commit x.entry.ticket r)) x.unit w.units (λ (u : PlainUnit). refl)
luns_stay (Transition.Conclude k x r) w = refl
luns_stay Transition.Wake w = refl
luns_stay (Transition.Resume k x) w = refl
luns_stay (Transition.Answer k x o xs) w = refl
luns_stay (Transition.Leave k u t jobs) w = map_change lun_of (stepped (Step.Leave t)) u w.units (λ (u : PlainUnit). refl)
luns_stay (Transition.Mark t p m jobs) w = map_change lun_of (stepped (step_by m)) p.unit w.units (λ (u : PlainUnit). refl)
luns_stay (Transition.Ask t u rule b) w = refl
luns_stay (Transition.MarkRefused t) w = refl
luns_stay (Transition.Check t p) w = refl
luns_stay (Transition.Respond c r xs) w = refl
luns_stay (Transition.Hard p jobs) w = map_change lun_of (stepped (Step.Reset hard_code)) p.unit w.units (λ (u : PlainUnit). refl)
luns_stay (Transition.Resize unit_index blocks) w = map_change lun_of (stepped (Step.Resize blocks)) unit_index w.units (λ (u : PlainUnit). refl)
luns_stay (Transition.Deal unit_index x) w = map_change lun_of (dealing x) unit_index w.units (λ (u : PlainUnit). refl)
luns_stay (Transition.Give e c xs) w = refl
luns_stay (Transition.Miss e) w = refl
luns_stay (Transition.Idle e) w = refl

-- and its kind of disk: one whose pages come and go, or one in memory
pub kinds_stay : (d : Transition) (w : PlainWorld) → map is_backed (after d w).units ≡ map is_backed w.units
kinds_stay (Transition.Run x) w = map_change is_backed (stepped (Step.Enter x.entry)) x.unit w.units (λ u. refl)
kinds_stay (Transition.Park x) w = map_change is_backed (parking x) x.unit w.units (λ u. refl)
kinds_stay (Transition.EnterFull x) w = map_change is_backed (stepped (Step.Full x.entry.ticket)) x.unit w.units (λ u. refl)
kinds_stay (Transition.Commit k x r) w = map_change is_backed (stepped (Step.Commit x.entry.ticket r)) x.unit w.units (λ u. refl)
kinds_stay (Transition.Withhold k x r) w = map_change is_backed (stepped (Step.Commit x.entry.ticket r)) x.unit w.units (λ u. refl)
kinds_stay (Transition.CommitBusy k x) w = map_change is_backed (stepped (Step.Busy x.entry.ticket)) x.unit w.units (λ u. refl)
kinds_stay (Transition.Leave k unit_index t jobs) w = map_change is_backed (stepped (Step.Leave t)) unit_index w.units (λ u. refl)
kinds_stay (Transition.Mark t p how jobs) w = map_change is_backed (stepped (step_by how)) p.unit w.units (backed_mark how)
kinds_stay (Transition.Hard p jobs) w = map_change is_backed (stepped (Step.Reset hard_code)) p.unit w.units (λ u. refl)
kinds_stay (Transition.Resize unit_index blocks) w = map_change is_backed (stepped (Step.Resize blocks)) unit_index w.units (backed_resize blocks)
kinds_stay (Transition.Deal unit_index x) w = map_change is_backed (dealing x) unit_index w.units (backed_deal x)
kinds_stay d w = refl
