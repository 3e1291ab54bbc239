-- What the jobs of the seats and of the hand-off count.
use Rattle.std.proofs.Common.{◌≡◌, ℕ, ◌+◌, List, [], ◌∷◌, Some, refl, ap, arith, zero, suc}
use Rattle.std.specs.Prelude.{slice_get}
use Rattle.std.specs.List.{sum_by}
use Rattle.std.proofs.lemmas.List.Sums.{sum_by-append, sum_by-cons, sum_by_push}
use Rattle.unit_model.specs.Endings.{Ending}
use Rattle.unit_model.specs.Jobs.{PlainJob}
use Rattle.device_model.specs.Parts.{Outcome, Hand}
use Rattle.device_model.specs.World.{Seat, PlainWorld, change, owner, all_off}
use Rattle.device_model.specs.Transitions.{Transition}
use Rattle.device_model.specs.Changing.{with_hand, without_first, with_jobs, leaving}
use Rattle.device_model.specs.After.{after}
use Rattle.device_model.specs.Happens.{Happens}
use Rattle.device_model.specs.Laws.{in_hand, at_seat, jobs_out, brings, ends}
use Rattle.device_model.proofs.Lists.{nothing, same}
use Rattle.device_model.proofs.Off.{off_put, off_taken, first_counts}

pub sum_change : {X : Type 0} (f : X → ℕ) (g : X → X) (k : ℕ) (xs : List X) (x : X) → slice_get xs k ≡ Some x
    → sum_by f (change g k xs) + f x ≡ sum_by f xs + f (g x)
sum_change f g k [] x e = absurd (nothing e)
sum_change f g zero (y ∷ xs) x e =
    let a = ap f (same e) in
    let b = ap (λ z. f (g z)) (same e) in
    let c = sum_by-cons f y xs in
    let d = sum_by-cons f (g y) xs in
    omega (arith, a, b, c, d)
sum_change f g (suc k) (y ∷ xs) x e =
    let h = sum_change f g k xs x e in
    let c = sum_by-cons f y xs in
    let d = sum_by-cons f y (change g k xs) in
    omega (arith, h, c, d)

-- what is to be kept
abbrev Kept : (PlainJob → ℕ) → Transition → PlainWorld → Type 0
Kept p d w = jobs_out p (after d w) + sum_by p (ends d) ≡ jobs_out p w + sum_by p (brings d)

abbrev seat : Hand → List PlainJob → Seat
seat hand out = record { hand = hand; out = out }

-- a seat gets jobs
gets : (p : PlainJob → ℕ) (k : ℕ) (seats : List Seat) (off : ℕ) (s : Seat) (jobs : List PlainJob)
    → slice_get seats k ≡ Some s
    → sum_by (at_seat p) (change (with_jobs jobs) k seats) + off + 0 ≡ sum_by (at_seat p) seats + off + sum_by p jobs
gets p k seats off s jobs at =
    let c = sum_change (at_seat p) (with_jobs jobs) k seats s at in
    let a = sum_by-append p s.out jobs in
    omega (arith, c, a)

-- a seat's hand changes
pub turns : (p : PlainJob → ℕ) (k : ℕ) (seats : List Seat) (old new : Hand) (out : List PlainJob)
    → slice_get seats k ≡ Some (seat old out)
    → sum_by (at_seat p) (change (with_hand new) k seats) + in_hand p old ≡ sum_by (at_seat p) seats + in_hand p new
turns p k seats old new out at =
    let c = sum_change (at_seat p) (with_hand new) k seats (seat old out) at in
    omega (arith, c)

-- a free seat's first job goes
goes : (p : PlainJob → ℕ) (k : ℕ) (seats : List Seat) (new : Hand) (x : PlainJob) (rest : List PlainJob)
    → slice_get seats k ≡ Some (seat Hand.Empty (x ∷ rest))
    → sum_by (at_seat p) (change (without_first new) k seats) + p x ≡ sum_by (at_seat p) seats + in_hand p new
goes p k seats new x rest at =
    let c = sum_change (at_seat p) (without_first new) k seats (seat Hand.Empty (x ∷ rest)) at in
    let a = sum_by-cons p x rest in
    omega (arith, c, a)

-- a seat's task leaves
frees : (p : PlainJob → ℕ) (k : ℕ) (seats : List Seat) (old : Hand) (out jobs : List PlainJob)
    → slice_get seats k ≡ Some (seat old out)
    → sum_by (at_seat p) (change (leaving jobs) k seats) + in_hand p old ≡ sum_by (at_seat p) seats + sum_by p jobs
frees p k seats old out jobs at =
    let c = sum_change (at_seat p) (leaving jobs) k seats (seat old out) at in
    let a = sum_by-append p out jobs in
    omega (arith, c, a)

pub kept : (p : PlainJob → ℕ) (d : Transition) (w : PlainWorld) → Happens d w → Kept p d w
kept p (Transition.Run x) w h =
    let k = owner w.workers x.chain.ticket.queue in
    let g = gets p k w.seats (sum_by p (all_off w)) h.comes.seat (x ∷ []) h.comes.seat_there in
    omega (arith, g)
kept p (Transition.Put k x) w h =
    let g = goes p k w.seats Hand.Empty x h.rest h.seat in
    let a = off_put p k w.handed_off h.off x h.there in
    omega (arith, g, a)
kept p (Transition.Keep k x) w h = let g = goes p k w.seats (Hand.Taken x) x h.rest h.seat in omega (arith, g)
kept p (Transition.Take k from x) w h =
    let t = turns p k w.seats Hand.Empty (Hand.Taken x) [] h.seat in
    let a = off_taken p from w.handed_off x h.rest h.handed_off in
    omega (arith, t, a)
kept p (Transition.Commit k x r) w h =
    let new = Hand.Done x (Outcome.Ended (Ending.Replied r)) in
    let t = turns p k w.seats (Hand.Taken x) new h.holds.out h.holds.seat in
    omega (arith, t)
kept p (Transition.CommitBusy k x) w h =
    let new = Hand.Done x (Outcome.Ended Ending.Busy) in
    let t = turns p k w.seats (Hand.Taken x) new h.holds.out h.holds.seat in
    omega (arith, t)
kept p (Transition.CommitAborted k x why) w h =
    let new = Hand.Done x (Outcome.Ended (Ending.Aborted why)) in
    let t = turns p k w.seats (Hand.Taken x) new h.holds.out h.holds.seat in
    omega (arith, t)
kept p (Transition.Defer k x) w h =
    let t = turns p k w.seats (Hand.Taken x) Hand.Empty h.holds.out h.holds.seat in
    let a = sum_by_push p w.aside x in
    omega (arith, t, a)
kept p (Transition.Withhold k x r) w h =
    let t = turns p k w.seats (Hand.Taken x) Hand.Empty h.holds.out h.holds.seat in
    let a = sum_by_push p w.aside x in
    omega (arith, t, a)
kept p (Transition.Conclude k x r) w h =
    let new = Hand.Done x (Outcome.Ended (Ending.Replied r)) in
    let t = turns p k w.seats (Hand.Taken x) new h.holds.out h.holds.seat in
    omega (arith, t)
kept p Transition.Wake w h = let a = sum_by-append p w.woken w.aside in omega (arith, a)
kept p (Transition.Resume k x) w h =
    let t = turns p k w.seats Hand.Empty (Hand.Taken x) h.free.0 h.free.1 in
    let a = first_counts p w.woken x h.rest h.first in
    omega (arith, t, a)
kept p (Transition.Answer k x o xs) w h =
    let t = turns p k w.seats (Hand.Done x o) (Hand.Answered x.unit x.chain.ticket) h.out h.seat in
    omega (arith, t)
kept p (Transition.Leave k unit_index t jobs) w h =
    let f = frees p k w.seats (Hand.Answered unit_index t) h.holds.out jobs h.holds.seat in
    omega (arith, f)
kept p (Transition.Mark t m how jobs) w h =
    let g = gets p 0 w.seats (sum_by p (all_off w)) h.seat jobs h.seat_there in
    let a = sum_by-append p w.woken w.aside in
    omega (arith, g, a)
kept p (Transition.Hard m jobs) w h =
    let g = gets p w.workers w.seats (sum_by p (all_off w)) h.seat jobs h.seat_there in
    let a = sum_by-append p w.woken w.aside in
    omega (arith, g, a)
kept p (Transition.EnterStale x) w h = absurd h
kept p (Transition.CommitUnknown k x) w h = absurd h
kept p (Transition.Idle e) w h = absurd h
kept p d w h = refl
