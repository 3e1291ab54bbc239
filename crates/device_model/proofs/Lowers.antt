-- Each transition lowers what is owed, but for what it pays.
use Rattle.std.proofs.Common.{Bool, true, false, ◌≡◌, ℕ, ◌+◌, ◌*◌, ◌≤◌, drop, length, length-append, Option, Some, None, refl, ap, arith, inl, inr, zero, suc}
use Rattle.std.specs.Prelude.{◌⊎◌, slice_get}
use Rattle.std.specs.List.{sum_by}
use Rattle.std.proofs.lemmas.List.{length_push}
use Rattle.unit_model.specs.Endings.{Ending}
use Rattle.unit_model.specs.Unit.{PlainUnit}
use Rattle.task_mgmt.specs.Functions.{PlainFunction, marking, next_look, asking, failing, checking}
use Rattle.device_model.specs.Parts.{Outcome, Slot, lengths_of}
use Rattle.device_model.specs.World.{PlainQueue, Opened, PlainWorld, change}
use Rattle.device_model.specs.Transitions.{Transition}
use Rattle.device_model.specs.Changing.{arriving, taking, slotted, broken_by, completing, directing, spending, on_function}
use Rattle.device_model.specs.Event.Hard.{reports_of}
use Rattle.device_model.specs.Event.Resize.{change_reports}
use Rattle.device_model.specs.After.{after}
use Rattle.device_model.specs.Happens.{Happens}
use Rattle.device_model.proofs.Deciding.{opened_there}
use Rattle.device_model.proofs.Jobs.{sum_change}
use Rattle.device_model.proofs.Flowing.{same_sum, held_transition}
use Rattle.device_model.specs.Measure.{owed, price_at, visits, if_whole, whole, measure, pays, roused}

request_price : (q : ℕ) → 2 ≤ q → price_at q ≡ 7
request_price zero h = absurd (omega (arith, h))
request_price (suc zero) h = absurd (omega (arith, h))
request_price (suc (suc q)) h = refl

some_price : (q : ℕ) → (q ≡ 0) ⊎ (2 ≤ q) → 2 ≤ price_at q
some_price zero h = omega (arith)
some_price (suc zero) h = absurd (elim h [ inl e ↦ omega (arith, e) | inr e ↦ omega (arith, e) ])
some_price (suc (suc q)) h = omega (arith)

-- no queue breaks
still_whole : (g : PlainQueue → PlainQueue) (k : ℕ) (w : PlainWorld)
    → ((q : PlainQueue) → (g q).ring.broken ≡ q.ring.broken)
    → sum_by whole (change g k w.queues) ≡ sum_by whole w.queues
still_whole g k w e = same_sum whole g k w.queues (λ q. ap if_whole (e q))

-- a function that goes on waits for as many marks
same_visits : (g : PlainFunction → PlainFunction) (o : Option Opened)
    → ((f : PlainFunction) → length (g f).waits ≡ length f.waits) → visits (on_function g o) ≡ visits o
same_visits g None e = refl
same_visits g (Some o) e = e o.function

reports_few : (o : Option PlainUnit) → length (reports_of o) ≤ 1
reports_few None = omega (arith)
reports_few (Some u) = omega (arith)

changes_few : (told : Bool) (o : Option PlainUnit) → length (change_reports told o) ≤ 1
changes_few told None = omega (arith)
changes_few true (Some u) = omega (arith)
changes_few false (Some u) = omega (arith)

abbrev pub Lowers : Transition → PlainWorld → Type 0
Lowers d w = measure (after d w) + 1 ≤ measure w + pays d + 2 * roused w d

pub lowers : (d : Transition) (w : PlainWorld) → Happens d w → Lowers d w
lowers (Transition.Poke x) w h = omega (arith)
lowers (Transition.Arrive f x) w h =
    let a = held_transition owed w (Transition.Arrive f x) h in
    let b = still_whole (arriving f.chain (Slot.Arrived x)) f.chain.ticket.queue w (λ q. refl) in
    let p = request_price f.chain.ticket.queue h.request in
    omega (arith, a, b, p)
lowers (Transition.Refuse f r) w h =
    let a = held_transition owed w (Transition.Refuse f r) h in
    let b = still_whole (arriving f.chain (Slot.Direct f.chain (Outcome.Decided r))) f.chain.ticket.queue w (λ q. refl) in
    let p = some_price f.chain.ticket.queue h.kind in
    omega (arith, a, b, p)
lowers (Transition.Open f g) w h =
    let a = held_transition owed w (Transition.Open f g) h in
    let b = still_whole (taking f.chain) f.chain.ticket.queue w (λ q. refl) in
    let p = ap price_at h.control in
    let c = h.decided in
    let none = ap (λ l. length l) (opened_there w.inventory.addresses c.0 (lengths_of f.chain).writable g c.2).1 in
    let d = ap visits h.closed in
    omega (arith, a, b, p, none, d)
lowers (Transition.Hold f) w h =
    let a = held_transition owed w (Transition.Hold f) h in
    let b = still_whole (taking f.chain) f.chain.ticket.queue w (λ q. refl) in
    let p = ap price_at h.event in
    omega (arith, a, b, p)
lowers (Transition.UseBuffer f xs) w h =
    let a = held_transition owed w (Transition.UseBuffer f xs) h in
    let b = still_whole (spending xs.seen f.chain) f.chain.ticket.queue w (λ q. refl) in
    let p = ap price_at h.event in
    omega (arith, a, b, p)
lowers (Transition.Break k n) w h =
    let a = held_transition owed w (Transition.Break k n) h in
    let b = sum_change whole (broken_by n) k w.queues h.queue h.there in
    let c = ap if_whole h.whole in
    omega (arith, a, b, c)
lowers (Transition.Run x) w h =
    let a = held_transition owed w (Transition.Run x) h in
    let b = still_whole (slotted Slot.Empty) x.chain.ticket.queue w (λ q. refl) in
    omega (arith, a, b)
lowers (Transition.Park x) w h =
    let a = held_transition owed w (Transition.Park x) h in
    let b = still_whole (slotted Slot.Empty) x.chain.ticket.queue w (λ q. refl) in
    omega (arith, a, b)
lowers (Transition.EnterFull x) w h =
    let a = held_transition owed w (Transition.EnterFull x) h in
    let s = Slot.Direct x.chain (Outcome.Ended Ending.Full) in
    let b = still_whole (slotted s) x.chain.ticket.queue w (λ q. refl) in
    omega (arith, a, b)
lowers (Transition.EnterBusy x) w h =
    let a = held_transition owed w (Transition.EnterBusy x) h in
    let s = Slot.Direct x.chain (Outcome.Ended Ending.Busy) in
    let b = still_whole (slotted s) x.chain.ticket.queue w (λ q. refl) in
    omega (arith, a, b)
lowers (Transition.Direct c o xs) w h =
    let a = held_transition owed w (Transition.Direct c o xs) h in
    let b = still_whole (directing xs.seen c) c.ticket.queue w (λ q. refl) in
    omega (arith, a, b)
lowers (Transition.Put k x) w h = let a = held_transition owed w (Transition.Put k x) h in omega (arith, a)
lowers (Transition.Keep k x) w h = let a = held_transition owed w (Transition.Keep k x) h in omega (arith, a)
lowers (Transition.Take k from x) w h = let a = held_transition owed w (Transition.Take k from x) h in omega (arith, a)
lowers (Transition.Commit k x r) w h = let a = held_transition owed w (Transition.Commit k x r) h in omega (arith, a)
lowers (Transition.CommitBusy k x) w h = let a = held_transition owed w (Transition.CommitBusy k x) h in omega (arith, a)
lowers (Transition.CommitAborted k x why) w h = let a = held_transition owed w (Transition.CommitAborted k x why) h in omega (arith, a)
lowers (Transition.Defer k x) w h = let a = held_transition owed w (Transition.Defer k x) h in omega (arith, a)
lowers (Transition.Withhold k x r) w h = let a = held_transition owed w (Transition.Withhold k x r) h in omega (arith, a)
lowers (Transition.Conclude k x r) w h = let a = held_transition owed w (Transition.Conclude k x r) h in omega (arith, a)
lowers Transition.Wake w h =
    let a = held_transition owed w Transition.Wake h in
    let n = length-append w.woken w.aside in
    omega (arith, a, n)
lowers (Transition.Resume k x) w h =
    let a = held_transition owed w (Transition.Resume k x) h in
    let d = ap (λ l. length l) h.first in
    let g = ap (λ l. length (drop 1 l)) h.first in
    omega (arith, a, d, g)
lowers (Transition.Answer k x o xs) w h =
    let a = held_transition owed w (Transition.Answer k x o xs) h in
    let b = still_whole (completing xs.seen x.chain) x.chain.ticket.queue w (λ q. refl) in
    omega (arith, a, b)
lowers (Transition.Leave k unit_index t jobs) w h = let a = held_transition owed w (Transition.Leave k unit_index t jobs) h in omega (arith, a)
lowers (Transition.Mark t p m jobs) w h =
    let a = held_transition owed w (Transition.Mark t p m jobs) h in
    let b = ap visits h.marking.there in
    let c = ap (λ o. visits (on_function (marking p) o)) h.marking.there in
    let n = length_push h.marking.opened.function.waits p in
    let k = length-append w.woken w.aside in
    omega (arith, a, b, c, n, k)
lowers (Transition.Ask t unit_index rule found) w h =
    let a = held_transition owed w (Transition.Ask t unit_index rule found) h in
    let f = h.marking.opened.function in
    let b = ap visits h.marking.there in
    let c = ap (λ o. visits (on_function (asking found) o)) h.marking.there in
    let n = length_push f.waits (next_look f) in
    omega (arith, a, b, c, n)
lowers (Transition.MarkRefused t) w h =
    let a = held_transition owed w (Transition.MarkRefused t) h in
    let c = same_visits failing w.function (λ f. refl) in
    omega (arith, a, c)
lowers (Transition.Check t p) w h =
    let a = held_transition owed w (Transition.Check t p) h in
    let b = ap visits h.waiting.there in
    let c = ap (λ o. visits (on_function checking o)) h.waiting.there in
    let d = ap (λ l. length l) h.waiting.still in
    let e = ap (λ l. length (drop 1 l)) h.waiting.still in
    omega (arith, a, b, c, d, e)
lowers (Transition.Respond c r xs) w h =
    let a = held_transition owed w (Transition.Respond c r xs) h in
    let b = still_whole (completing xs.seen c) c.ticket.queue w (λ q. refl) in
    omega (arith, a, b)
lowers (Transition.Hard p jobs) w h =
    let a = held_transition owed w (Transition.Hard p jobs) h in
    let n = length-append w.waiting (reports_of (slice_get w.units p.unit)) in
    let m = reports_few (slice_get w.units p.unit) in
    let k = length-append w.woken w.aside in
    omega (arith, a, n, m, k)
lowers (Transition.Resize unit_index blocks) w h =
    let a = held_transition owed w (Transition.Resize unit_index blocks) h in
    let n = length-append w.waiting (change_reports w.tells_changes (slice_get w.units unit_index)) in
    let m = changes_few w.tells_changes (slice_get w.units unit_index) in
    omega (arith, a, n, m)
lowers (Transition.Deal unit_index x) w h = let a = held_transition owed w (Transition.Deal unit_index x) h in omega (arith, a)
lowers (Transition.Give e c xs) w h =
    let a = held_transition owed w (Transition.Give e c xs) h in
    let b = still_whole (completing xs.seen c) c.ticket.queue w (λ q. refl) in
    let d = ap (λ l. length l) h.waits in
    let g = ap (λ l. length (drop 1 l)) h.waits in
    omega (arith, a, b, d, g)
lowers (Transition.Miss e) w h =
    let a = held_transition owed w (Transition.Miss e) h in
    let d = ap (λ l. length l) h.waits in
    let g = ap (λ l. length (drop 1 l)) h.waits in
    omega (arith, a, d, g)
lowers (Transition.CommitUnknown k x) w h = absurd h
lowers (Transition.EnterStale x) w h = absurd h
lowers (Transition.Idle e) w h = absurd h
