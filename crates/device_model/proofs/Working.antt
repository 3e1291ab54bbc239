-- Each job that was handed out is that of a task that is alive.
use Rattle.std.proofs.Common.{◌≡◌, ℕ, ◌≤◌, Bool, true, false, ◌||◌, eqb, cond, List, [], ◌∷◌, ◌++◌, drop, Option, Some, None, is_some, refl, sym, ◌∙◌, ap, subst, arith, inl, inr}
use Rattle.std.specs.Prelude.{slice_get, ⊤}
use Rattle.std.specs.List.{AllByRecursion, sum_by}
use Rattle.std.proofs.lemmas.Bool.{eq-eqb, eqb-true}
use Rattle.ring_core.specs.declared.log.Ticket.{Ticket}
use Rattle.unit_model.specs.Endings.{Ending}
use Rattle.unit_model.specs.declared.reason.Reason.{Reason}
use Rattle.unit_model.specs.Tasks.{Entry, same_ticket, task_of, AreDistinct}
use Rattle.unit_model.specs.Steps.{Step, alive, done}
use Rattle.unit_model.specs.Marks.{mark_of, marked}
use Rattle.unit_model.specs.Enabling.{enabled}
use Rattle.unit_model.specs.Weights.{weight}
use Rattle.unit_model.proofs.Tickets.{same-true, itself, apart, or_right}
use Rattle.unit_model.proofs.Distinct.{alive_distinct}
use Rattle.unit_model.proofs.Filtered.{other_head}
use Rattle.unit_model.specs.Jobs.{PlainJob}
use Rattle.unit_model.specs.Unit.{PlainUnit, IsUnit, waits_behind, after as stepped, parking, dealing}
use Rattle.command_model.specs.PlainReply.{PlainReply}
use Rattle.unit_model.specs.Asking.{IsOf}
use Rattle.task_mgmt.specs.Functions.{step_by}
use Rattle.task_mgmt.specs.declared.kind.MarkBy.{MarkBy}
use Rattle.task_mgmt.specs.declared.kind.MarkBy.TheVariants.{Abort, Reset}
use Rattle.device_model.specs.Parts.{Outcome, Hand}
use Rattle.device_model.specs.World.{Seat, PlainWorld, Opens, IsNewSeat, change, owner, Everywhere, all_of, all_off}
use Rattle.device_model.specs.Transitions.{Transition}
use Rattle.device_model.specs.Changing.{bit, with_hand, without_first, with_jobs, with_job, leaving}
use Rattle.device_model.specs.Event.Hard.{hard_code}
use Rattle.device_model.specs.After.{after}
use Rattle.device_model.specs.Happens.{MayHappen, Occurrence, Runs}
use Rattle.device_model.specs.Found.{MayStep, handed_out}
use Rattle.device_model.specs.Event.Commit.{CommitsUnknown, Withholds}
use Rattle.device_model.specs.Lawful.{AreUnits}
use Rattle.device_model.specs.Standing.{AreAtWork, IsToCommit, IsToLeave, HandWorks}
use Rattle.device_model.proofs.Lists.{same, get_change, get_other, at_other}
use Rattle.device_model.proofs.Staying.{run_keeps}
use Rattle.device_model.proofs.Histories.{may_mark, new_units, transition_units}
use Rattle.device_model.proofs.Handed.{IsOpen, IsEnded, Spares, ended_on, open_entered, open_given}
use Rattle.device_model.proofs.Withheld.{IsTaken, WaitsAlike, Follows, follows, taken_on, taken_alike, open_taken, withheld_now, ran_done, deal_alike}
use Rattle.device_model.proofs.Sums.{counts_one, counts_two, counts_none}
use Rattle.device_model.proofs.Named.{IsFor, UnitsHoldOwn, AreNamed, all_push, given_own, done_is_named, new_named, transition_names}
use Rattle.device_model.proofs.Tasks.{AreBalanced, of_index, hand_count, seat_count, out_count, new_balanced, transition_balances}
use Rattle.device_model.proofs.Off.{each_put, each_taken, none_between, between, between_all, between_parts, each_woken, each_push, first_taken}

-- the unit of an index is there, and is so
abbrev At : (PlainUnit → Type 0) → List PlainUnit → ℕ → Type 0
At P us unit_index = (u : PlainUnit) × (slice_get us unit_index ≡ Some u) × P u

abbrev pub ToCommit : List PlainUnit → PlainJob → Type 0
ToCommit us x = At (IsTaken x.entry) us x.unit

abbrev HasEnded : Ticket → PlainUnit → Type 0
HasEnded t u = IsEnded t u.steps

abbrev ToLeave : List PlainUnit → ℕ → Ticket → Type 0
ToLeave us unit_index t = At (HasEnded t) us unit_index

abbrev HandAt : List PlainUnit → Hand → Type 0
HandAt us Hand.Empty = ⊤
HandAt us (Hand.Taken x) = ToCommit us x
HandAt us (Hand.Done x o) = ToLeave us x.unit x.entry.ticket
HandAt us (Hand.Answered unit_index t) = ToLeave us unit_index t

abbrev JobsAt : List PlainUnit → List PlainJob → Type 0
JobsAt us xs = AllByRecursion (ToCommit us) xs

abbrev pub SeatAt : List PlainUnit → Seat → Type 0
SeatAt us s = HandAt us s.hand × JobsAt us s.out

abbrev SeatsAt : List PlainUnit → List Seat → Type 0
SeatsAt us seats = Everywhere (λ k s. SeatAt us s) seats

abbrev pub AtWork : PlainWorld → Type 0
AtWork w = SeatsAt w.units w.seats × JobsAt w.units (between w)

-- A step of one unit

-- the step that is taken at an index spares the task of a ticket and an index
abbrev Spared : Step → ℕ → ℕ → Ticket → Type 0
Spared s k unit_index t = unit_index ≡ k → Spares s t

abbrev HandSpared : Step → ℕ → Hand → Type 0
HandSpared s k Hand.Empty = ⊤
HandSpared s k (Hand.Taken x) = Spared s k x.unit x.entry.ticket
HandSpared s k (Hand.Done x o) = Spared s k x.unit x.entry.ticket
HandSpared s k (Hand.Answered unit_index t) = Spared s k unit_index t

abbrev JobsSpared : Step → ℕ → List PlainJob → Type 0
JobsSpared s k xs = AllByRecursion (λ x. Spared s k x.unit x.entry.ticket) xs

-- the unit of an index goes on by a step
record Goes (s : Step) (k : ℕ) (old new : List PlainUnit) : Type 0 where
  pub here : (u : PlainUnit) → slice_get old k ≡ Some u
      → (v : PlainUnit) × (slice_get new k ≡ Some v) × Follows s u v
  pub other : (i : ℕ) → eqb k i ≡ false → slice_get new i ≡ slice_get old i

goes : (s : Step) (g : PlainUnit → PlainUnit) (k : ℕ) (us : List PlainUnit)
    → ((u : PlainUnit) → Follows s u (g u)) → Goes s k us (change g k us)
goes s g k us e =
    record {
      here = λ u at. (g u, get_change g k us u at, e u);
      other = λ i n. get_other g k us i n;
    }

at_here : (P : PlainUnit → Type 0) (s : Step) (k : ℕ) (old new : List PlainUnit) → Goes s k old new
    → ((u v : PlainUnit) → Follows s u v → P u → P v) → At P old k → At P new k
at_here P s k old new g f h =
    let v = g.here h.0 h.1 in
    (v.0, v.1, f h.0 v.0 v.2 h.2)

at_on : (P : PlainUnit → Type 0) (s : Step) (k i : ℕ) (old new : List PlainUnit) → Goes s k old new
    → (i ≡ k → (u v : PlainUnit) → Follows s u v → P u → P v) → At P old i → At P new i
at_on P s k i old new g f h =
    (elim (eqb k i) as (λ b. eqb k i ≡ b → At P new i) [
      | true ↦ λ q.
          let is : k ≡ i = eqb-true k i q in
          subst (At P new) is (at_here P s k old new g (f (sym is)) (subst (At P old) (sym is) h))
      | false ↦ λ q. (h.0, g.other i q ∙ h.1, h.2)
    ]) refl

-- what is to be committed, or to leave, goes on to be where the step spares it
commit_on : (s : Step) (k : ℕ) (old new : List PlainUnit) (x : PlainJob) → Goes s k old new
    → Spared s k x.unit x.entry.ticket → ToCommit old x → ToCommit new x
commit_on s k old new x g sp h =
    at_on (IsTaken x.entry) s k x.unit old new g (λ q u v f p. taken_on s x.entry u v f (sp q) p) h

leave_on : (s : Step) (k : ℕ) (old new : List PlainUnit) (unit_index : ℕ) (t : Ticket) → Goes s k old new
    → Spared s k unit_index t → ToLeave old unit_index t → ToLeave new unit_index t
leave_on s k old new unit_index t g sp h =
    at_on (HasEnded t) s k unit_index old new g
    (λ q u v f p. subst (IsEnded t) (sym f.steps) (ended_on s t u.steps (sp q) p)) h

hand_on : (s : Step) (k : ℕ) (old new : List PlainUnit) (h : Hand) → Goes s k old new → HandSpared s k h
    → HandAt old h → HandAt new h
hand_on s k old new Hand.Empty g sp h = tt
hand_on s k old new (Hand.Taken x) g sp h = commit_on s k old new x g sp h
hand_on s k old new (Hand.Done x o) g sp h = leave_on s k old new x.unit x.entry.ticket g sp h
hand_on s k old new (Hand.Answered unit_index t) g sp h = leave_on s k old new unit_index t g sp h

jobs_on : (s : Step) (k : ℕ) (old new : List PlainUnit) (xs : List PlainJob) → Goes s k old new → JobsSpared s k xs
    → JobsAt old xs → JobsAt new xs
jobs_on s k old new [] g sp h = tt
jobs_on s k old new (x ∷ xs) g sp h = (commit_on s k old new x g sp.0 h.0, jobs_on s k old new xs g sp.1 h.1)

-- a step that ends no task
abbrev IsMild : Step → Type 0
IsMild s = (t : Ticket) → Spares s t

mild_hand : (s : Step) (k : ℕ) (h : Hand) → IsMild s → HandSpared s k h
mild_hand s k Hand.Empty m = tt
mild_hand s k (Hand.Taken x) m = λ q. m x.entry.ticket
mild_hand s k (Hand.Done x o) m = λ q. m x.entry.ticket
mild_hand s k (Hand.Answered unit_index t) m = λ q. m t

mild_jobs : (s : Step) (k : ℕ) (xs : List PlainJob) → IsMild s → JobsSpared s k xs
mild_jobs s k [] m = tt
mild_jobs s k (x ∷ xs) m = (λ q. m x.entry.ticket, mild_jobs s k xs m)

mild_seat : (s : Step) (k : ℕ) (old new : List PlainUnit) (r : Seat) → Goes s k old new → IsMild s → SeatAt old r
    → SeatAt new r
mild_seat s k old new r g m h = (
  hand_on s k old new r.hand g (mild_hand s k r.hand m) h.0,
  jobs_on s k old new r.out g (mild_jobs s k r.out m) h.1,
)

-- one seat changes, with the units
seats_go : (old new : List PlainUnit) (g : Seat → Seat) (k : ℕ) (seats : List Seat) (s : Seat)
    → slice_get seats k ≡ Some s → (SeatAt old s → SeatAt new (g s))
    → ((i : ℕ) (r : Seat) → eqb k i ≡ false → slice_get seats i ≡ Some r → SeatAt old r → SeatAt new r)
    → SeatsAt old seats → SeatsAt new (change g k seats)
seats_go old new g k seats s at f f' h i y there =
    let o = at_other g k seats i y there in
    let was = h i o.0 o.1 in
    elim o.2 [
      | inl q ↦
          let is : o.0 ≡ s = same (sym o.1 ∙ ap (λ j. slice_get seats j) q.0 ∙ at) in
          subst (SeatAt new) (sym (q.1 ∙ ap g is)) (f (subst (SeatAt old) is was))
      | inr q ↦ subst (SeatAt new) (sym q.1) (f' i o.0 q.0 o.1 was)
    ]

-- one seat changes alone
seat_goes : (us : List PlainUnit) (g : Seat → Seat) (k : ℕ) (seats : List Seat) (s : Seat)
    → slice_get seats k ≡ Some s → (SeatAt us s → SeatAt us (g s)) → SeatsAt us seats → SeatsAt us (change g k seats)
seat_goes us g k seats s at f h = seats_go us us g k seats s at f (λ i r n there was. was) h

-- a seat gets jobs by a step that ends no task
gets : (s : Step) (unit_index : ℕ) (old new : List PlainUnit) (k : ℕ) (seats : List Seat) (off : List PlainJob) (r : Seat)
    (jobs : List PlainJob) → Goes s unit_index old new → IsMild s → slice_get seats k ≡ Some r → JobsAt new jobs
    → SeatsAt old seats × JobsAt old off → SeatsAt new (change (with_jobs jobs) k seats) × JobsAt new off
gets s unit_index old new k seats off r jobs g m at more h = (
  seats_go old new (with_jobs jobs) k seats r at
      (λ was.
      let now = mild_seat s unit_index old new r g m was in
      (now.0, all_push (ToCommit new) r.out jobs now.1 more))
      (λ i v n there was. mild_seat s unit_index old new v g m was) h.0,
  jobs_on s unit_index old new off g (mild_jobs s unit_index off m) h.1,
)

-- no seat gets any
stays : (s : Step) (unit_index : ℕ) (old new : List PlainUnit) (seats : List Seat) (off : List PlainJob)
    → Goes s unit_index old new → IsMild s → SeatsAt old seats × JobsAt old off → SeatsAt new seats × JobsAt new off
stays s unit_index old new seats off g m h = (
  λ i r at. mild_seat s unit_index old new r g m (h.0 i r at),
  jobs_on s unit_index old new off g (mild_jobs s unit_index off m) h.1,
)

-- A change of one unit that leaves its steps, and whose replies wait

abbrev Leaves : (PlainUnit → PlainUnit) → Type 0
Leaves g = (u : PlainUnit) → ((g u).steps ≡ u.steps) × WaitsAlike u (g u)

at_kept : (P : PlainUnit → Type 0) (g : PlainUnit → PlainUnit) (k i : ℕ) (us : List PlainUnit)
    → ((u : PlainUnit) → P u → P (g u)) → At P us i → At P (change g k us) i
at_kept P g k i us f h =
    (elim (eqb k i) as (λ b. eqb k i ≡ b → At P (change g k us) i) [
      | true ↦ λ q.
          let is : k ≡ i = eqb-true k i q in
          subst (At P (change g k us)) is
          (g h.0, get_change g k us h.0 (ap (λ n. slice_get us n) is ∙ h.1), f h.0 h.2)
      | false ↦ λ q. (h.0, get_other g k us i q ∙ h.1, h.2)
    ]) refl

commit_kept : (g : PlainUnit → PlainUnit) (k : ℕ) (us : List PlainUnit) (x : PlainJob) → Leaves g → ToCommit us x
    → ToCommit (change g k us) x
commit_kept g k us x e h =
    at_kept (IsTaken x.entry) g k x.unit us (λ u p. taken_alike x.entry u (g u) (e u).0 (e u).1 p) h

leave_kept : (g : PlainUnit → PlainUnit) (k unit_index : ℕ) (t : Ticket) (us : List PlainUnit) → Leaves g
    → ToLeave us unit_index t → ToLeave (change g k us) unit_index t
leave_kept g k unit_index t us e h =
    at_kept (HasEnded t) g k unit_index us (λ u p. subst (IsEnded t) (sym (e u).0) p) h

hand_kept : (g : PlainUnit → PlainUnit) (k : ℕ) (us : List PlainUnit) (h : Hand) → Leaves g
    → HandAt us h → HandAt (change g k us) h
hand_kept g k us Hand.Empty e h = tt
hand_kept g k us (Hand.Taken x) e h = commit_kept g k us x e h
hand_kept g k us (Hand.Done x o) e h = leave_kept g k x.unit x.entry.ticket us e h
hand_kept g k us (Hand.Answered unit_index t) e h = leave_kept g k unit_index t us e h

jobs_kept : (g : PlainUnit → PlainUnit) (k : ℕ) (us : List PlainUnit) (xs : List PlainJob)
    → Leaves g → JobsAt us xs → JobsAt (change g k us) xs
jobs_kept g k us [] e h = tt
jobs_kept g k us (x ∷ xs) e h = (commit_kept g k us x e h.0, jobs_kept g k us xs e h.1)

-- A task stands in one place

abbrev pub one : Ticket → Ticket → ℕ
one t s = bit (same_ticket t s)

-- no task of the ticket
none_of : (t : Ticket) (es : List Entry) → task_of t es ≡ None → weight (one t) es ≡ 0
none_of t [] h = refl
none_of t (e ∷ es) h =
    let o = other_head t e es h in
    let a = none_of t es o.1 in
    let b = ap bit (apart e.ticket t o.0) in
    omega (arith, a, b)

-- distinct tasks
once : (t : Ticket) (es : List Entry) → AreDistinct es → weight (one t) es ≤ 1
once t [] d = omega (arith)
once t (e ∷ es) d =
    (elim (same_ticket t e.ticket) as (λ b. same_ticket t e.ticket ≡ b → weight (one t) (e ∷ es) ≤ 1) [
      | true ↦ λ k.
          let a = none_of t es (ap (λ i. task_of i es) (same-true t e.ticket k) ∙ d.0) in
          let b = ap bit k in
          omega (arith, a, b)
      | false ↦ λ k.
          let a = once t es d.1 in
          let b = ap bit k in
          omega (arith, a, b)
    ]) refl

-- at most one job under way of a unit has the ticket
out_once : (n : ℕ) (t : Ticket) (w : PlainWorld) (u : PlainUnit) → slice_get w.units n ≡ Some u → AreUnits w
    → AreBalanced w → out_count n (one t) w.seats (between w) ≤ 1
out_once n t w u at us b =
    let e = b n (one t) u at in
    let is = us n u at in
    let o = once t (alive u.steps) (alive_distinct u.opening u.steps is.lawful) in
    omega (arith, e, o)

pub no_bit : (b : Bool) → bit b ≡ 0 → b ≡ false
no_bit true e = absurd (omega (arith, e))
no_bit false e = refl

-- what doesn't count for the ticket at an index has another ticket there
other_ticket : (i n : ℕ) (t u : Ticket) → cond (eqb i n) (one t u) 0 ≡ 0 → i ≡ n → same_ticket t u ≡ false
other_ticket i n t u e q =
    let a = ap (λ b. cond b (one t u) 0) (eq-eqb i n q) in
    no_bit (same_ticket t u) (omega (arith, a, e))

-- the step ends no other task than that of the ticket
abbrev EndsOnly : Ticket → Step → Type 0
EndsOnly t s = (u : Ticket) → same_ticket t u ≡ false → Spares s u

spared_hand : (s : Step) (n : ℕ) (t : Ticket) (h : Hand) → EndsOnly t s → hand_count n (one t) h ≡ 0
    → HandSpared s n h
spared_hand s n t Hand.Empty f e = tt
spared_hand s n t (Hand.Taken x) f e = λ q. f x.entry.ticket (other_ticket x.unit n t x.entry.ticket e q)
spared_hand s n t (Hand.Done x o) f e = λ q. f x.entry.ticket (other_ticket x.unit n t x.entry.ticket e q)
spared_hand s n t (Hand.Answered unit_index u) f e = λ q. f u (other_ticket unit_index n t u e q)

spared_each : (s : Step) (n : ℕ) (t : Ticket) (xs : List PlainJob) → EndsOnly t s
    → AllByRecursion (λ x. of_index n (one t) x ≡ 0) xs → JobsSpared s n xs
spared_each s n t [] f h = tt
spared_each s n t (x ∷ xs) f h = (
  λ q. f x.entry.ticket (other_ticket x.unit n t x.entry.ticket h.0 q),
  spared_each s n t xs f h.1,
)

spared_jobs : (s : Step) (n : ℕ) (t : Ticket) (xs : List PlainJob) → EndsOnly t s
    → sum_by (of_index n (one t)) xs ≡ 0 → JobsSpared s n xs
spared_jobs s n t xs f e = spared_each s n t xs f (counts_none (of_index n (one t)) xs e)

-- all but the hand of this seat is spared
record SparesElse (s : Step) (n k : ℕ) (seats : List Seat) (off out : List PlainJob) : Type 0 where
  pub same_seat : JobsSpared s n out
  pub others : (i : ℕ) (r : Seat) → eqb k i ≡ false → slice_get seats i ≡ Some r
      → HandSpared s n r.hand × JobsSpared s n r.out
  pub between : JobsSpared s n off

-- a hand that has the ticket leaves none for another place
spares_else : (s : Step) (n : ℕ) (t : Ticket) (k : ℕ) (seats : List Seat) (off : List PlainJob) (hand : Hand)
    (out : List PlainJob) → EndsOnly t s → slice_get seats k ≡ Some (record { hand = hand; out = out })
    → hand_count n (one t) hand ≡ 1 → out_count n (one t) seats off ≤ 1 → SparesElse s n k seats off out
spares_else s n t k seats off hand out f at e le =
    let this : Seat = record { hand = hand; out = out } in
    let a = counts_one (seat_count n (one t)) k seats this at in
    record {
      same_seat = spared_jobs s n t out f (omega (arith, a, e, le));
      others = λ i r no there.
          let b = counts_two (seat_count n (one t)) k i seats this r no at there in (
            spared_hand s n t r.hand f (omega (arith, b, e, le)),
            spared_jobs s n t r.out f (omega (arith, b, e, le)),
          );
      between = spared_jobs s n t off f (omega (arith, a, e, le));
    }

-- a step that ends the task of a seat's hand
ends : (s : Step) (n k : ℕ) (old new : List PlainUnit) (seats : List Seat) (off : List PlainJob) (hand : Hand)
    (out : List PlainJob) (g : Seat → Seat) → Goes s n old new
    → slice_get seats k ≡ Some (record { hand = hand; out = out }) → SparesElse s n k seats off out
    → (HandAt old hand → JobsAt new out → SeatAt new (g (record { hand = hand; out = out })))
    → SeatsAt old seats × JobsAt old off → SeatsAt new (change g k seats) × JobsAt new off
ends s n k old new seats off hand out g goes at sp f h = (
  seats_go old new g k seats (record { hand = hand; out = out }) at
      (λ was. f was.0 (jobs_on s n old new out goes sp.same_seat was.1))
      (λ i r no there was.
      let o = sp.others i r no there in
      (hand_on s n old new r.hand goes o.0 was.0, jobs_on s n old new r.out goes o.1 was.1))
      h.0,
  jobs_on s n old new off goes sp.between h.1,
)

its_own : (n : ℕ) (t : Ticket) → cond (eqb n n) (one t t) 0 ≡ 1
its_own n t = ap (λ b. cond b (one t t) 0) (eq-eqb n n refl) ∙ ap bit (itself t)

-- a command ran, or was answered BUSY
finishes : (s : Step) (k : ℕ) (x : PlainJob) (o : Outcome) (out : List PlainJob) (w : PlainWorld) (u : PlainUnit)
    → slice_get w.units x.unit ≡ Some u → slice_get w.seats k ≡ Some (record { hand = Hand.Taken x; out = out })
    → EndsOnly x.entry.ticket s
    → ((past : List Step) → (alive (s ∷ past) ≡ alive past) × (done x.entry.ticket (s ∷ past) ≡ true))
    → AreUnits w → AreBalanced w → AtWork w
    → SeatsAt (change (stepped s) x.unit w.units) (change (with_hand (Hand.Done x o)) k w.seats)
    × JobsAt (change (stepped s) x.unit w.units) (between w)
finishes s k x o out w u there at only does us b h =
    let n = x.unit in
    let t = x.entry.ticket in
    let old = w.units in
    let new = change (stepped s) n old in
    let step = goes s (stepped s) n old (follows s) in
    let le = out_once n t w u there us b in
    let sp = spares_else s n t k w.seats (between w) (Hand.Taken x) out only at (its_own n t) le in
    let is = (λ (v : PlainUnit) (p : IsTaken x.entry v).
    let d = does v.steps in
    let ended : IsEnded t (s ∷ v.steps) =
    (x.entry, ap (task_of t) d.0 ∙ p.0, ap (λ c. c || marked t (s ∷ v.steps)) d.1) in
    ended) in
    ends s n k old new w.seats (between w) (Hand.Taken x) out (with_hand (Hand.Done x o)) step at sp
    (λ was more. ((stepped s was.0, get_change (stepped s) n old was.0 was.1, is was.0 was.2), more)) h

each_given : (new : List PlainUnit) (k : ℕ) (v : PlainUnit) (xs : List PlainJob) → slice_get new k ≡ Some v
    → AllByRecursion (IsFor k) xs → AllByRecursion (λ j. IsOpen j.entry v.steps) xs → JobsAt new xs
each_given new k v [] at a b = tt
each_given new k v (x ∷ xs) at a b =
    ((v, ap (λ i. slice_get new i) a.0.0 ∙ at, open_taken x.entry v b.0), each_given new k v xs at a.1 b.1)

-- the jobs that a unit's step hands out
given : (s : Step) (k : ℕ) (us : List PlainUnit) (u : PlainUnit) (jobs : List PlainJob) → slice_get us k ≡ Some u
    → MayStep u s → IsUnit u → UnitsHoldOwn us → jobs ≡ handed_out u s → JobsAt (change (stepped s) k us) jobs
given s k us u jobs at may is holds e =
    let new = change (stepped s) k us in
    let there = get_change (stepped s) k us u at in
    let opened = open_given u.opening s u.steps u.parked is.lawful may is.holds in
    subst (JobsAt new) (sym e)
    (each_given new k (stepped s u) (handed_out u s) there (given_own s k us u at holds) opened)

mild_mark : (m : MarkBy) → IsMild (step_by m)
mild_mark (Abort rule) t = tt
mild_mark (Reset c) t = tt

left_on : (a b : Bool) → b ≡ false → (a || b) ≡ true → a ≡ true
left_on true b off h = refl
left_on false b off h = sym off ∙ h

-- the task of a job that a seat took may be committed, was marked, or has a reply that is withheld
taken : (k : ℕ) (x : PlainJob) (out : List PlainJob) (w : PlainWorld) (u : PlainUnit)
    → slice_get w.units x.unit ≡ Some u → slice_get w.seats k ≡ Some (record { hand = Hand.Taken x; out = out })
    → AtWork w → IsTaken x.entry u
taken k x out w u there at h =
    let c = (h.0 k (record { hand = Hand.Taken x; out = out }) at).0 in
    subst (λ (v : PlainUnit). IsTaken x.entry v) (same (sym c.1 ∙ there)) c.2

-- no job is lost
never_lost : (k : ℕ) (x : PlainJob) (w : PlainWorld) → CommitsUnknown w k x → AtWork w → ⊥
never_lost k x w m h =
    let u = m.holds.unit in
    let past = u.steps in
    let e = x.entry in
    let c = taken k x m.holds.out w u m.holds.there m.holds.seat h in
    let of : IsOf x e past = record { is_there = c.0; as_asked = refl } in
    elim c.2 [
      | inl undone ↦
          (elim (mark_of e.ticket past) as (λ o. mark_of e.ticket past ≡ o → ⊥) [
            | Some why ↦ λ q. m.not_marked e why of q
            | None ↦ λ q.
                let off = ap (λ (o : Option Reason). is_some o) q in
                m.not_ready e of (record {
                  is_there = c.0;
                  is_enabled = left_on (enabled e past) (marked e.ticket past) off c.1;
                  is_unmarked = off;
                  is_undone = undone;
                })
          ]) refl
      | inr r ↦ m.not_withheld e r.0 of r.1
    ]

-- a command ran, and its reply isn't told yet
withholds : (k : ℕ) (x : PlainJob) (r : PlainReply) (w : PlainWorld) → Withholds w k x r → AreUnits w → AreBalanced w
    → AtWork w → AtWork (after (Transition.Withhold k x r) w)
withholds k x r w m us b h =
    let s = Step.Commit x.entry.ticket r in
    let n = x.unit in
    let t = x.entry.ticket in
    let u = m.holds.unit in
    let old = w.units in
    let new = change (stepped s) n old in
    let out = m.holds.out in
    let step = goes s (stepped s) n old (follows s) in
    let le = out_once n t w u m.holds.there us b in
    let sp = spares_else s n t k w.seats (between w) (Hand.Taken x) out (λ v no. no) m.holds.seat (its_own n t) le in
    let all = ends s n k old new w.seats (between w) (Hand.Taken x) out (with_hand Hand.Empty) step m.holds.seat sp
    (λ was more. (tt, more)) h in
    let c = taken k x out w u m.holds.there m.holds.seat h in
    let one : m.may.0 ≡ x.entry = same (sym m.may.1.is_there ∙ c.0) in
    let waits = subst (λ (e : Entry). waits_behind u e r.status ≡ true) one m.may.3 in
    let is : ToCommit new x = (stepped s u, get_change (stepped s) n old u m.holds.there, withheld_now x.entry r u c waits) in
    let a = between_parts (ToCommit new) (all_off w) w.aside w.woken all.1 in (
      all.0,
      between_all (ToCommit new) (all_off w) (w.aside ++ x ∷ []) w.woken a.0 (each_push (ToCommit new) w.aside x a.1 is) a.2,
    )

-- One transition

transition_works : (d : Transition) (w : PlainWorld) → MayHappen d w → AreUnits w → AreNamed w → AreBalanced w → AtWork w
    → AtWork (after d w)
transition_works (Transition.Run x) w m us names b h =
    let c = m.comes in
    let u = c.unit in
    let s = Step.Enter x.entry in
    let new = change (stepped s) x.unit w.units in
    let is = us x.unit u c.unit_there in
    let opened = open_entered u.opening x.entry u.steps is.lawful m.may m.blocked in
    gets s x.unit w.units new (owner w.workers x.chain.ticket.queue) w.seats (between w) c.seat (x ∷ [])
    (goes s (stepped s) x.unit w.units (follows s)) (λ t. tt) c.seat_there
    ((stepped s u, get_change (stepped s) x.unit w.units u c.unit_there, open_taken x.entry (stepped s u) opened), tt) h
transition_works (Transition.Park x) w m us names b h =
    let s = Step.Enter x.entry in
    stays s x.unit w.units (change (parking x) x.unit w.units) w.seats (between w)
    (goes s (parking x) x.unit w.units (λ v. record { steps = refl; waits = λ c n. refl })) (λ t. tt) h
transition_works (Transition.EnterFull x) w m us names b h =
    let s = Step.Full x.entry.ticket in
    stays s x.unit w.units (change (stepped s) x.unit w.units) w.seats (between w)
    (goes s (stepped s) x.unit w.units (follows s)) (λ t. tt) h
transition_works (Transition.Put k x) w m us names b h =
    let this : Seat = record { hand = Hand.Empty; out = x ∷ m.rest } in
    let was = h.0 k this m.seat in
    let P = ToCommit w.units in
    let a = between_parts P (all_off w) w.aside w.woken h.1 in (
      seat_goes w.units (without_first Hand.Empty) k w.seats this m.seat (λ z. (tt, z.1.1)) h.0,
      between_all P (all_of (change (with_job x) k w.handed_off)) w.aside w.woken
          (each_put P k w.handed_off x was.1.0 a.0) a.1 a.2,
    )
transition_works (Transition.Keep k x) w m us names b h =
    let this : Seat = record { hand = Hand.Empty; out = x ∷ m.rest } in
    (seat_goes w.units (without_first (Hand.Taken x)) k w.seats this m.seat (λ z. (z.1.0, z.1.1)) h.0, h.1)
transition_works (Transition.Take k from x) w m us names b h =
    let this : Seat = record { hand = Hand.Empty; out = [] } in
    let P = ToCommit w.units in
    let a = between_parts P (all_off w) w.aside w.woken h.1 in
    let off = each_taken P from w.handed_off x m.rest m.handed_off a.0 in (
      seat_goes w.units (with_hand (Hand.Taken x)) k w.seats this m.seat (λ z. (off.0, z.1)) h.0,
      between_all P (all_of (change (drop 1) from w.handed_off)) w.aside w.woken off.1 a.1 a.2,
    )
transition_works (Transition.Commit k x r) w m us names b h =
    finishes (Step.Commit x.entry.ticket r) k x (Outcome.Ended (Ending.Replied r)) m.holds.out w m.holds.unit
    m.holds.there m.holds.seat (λ u n. n)
    (λ past. (refl, ap (λ c. c || done x.entry.ticket past) (itself x.entry.ticket))) us b h
transition_works (Transition.CommitBusy k x) w m us names b h =
    finishes (Step.Busy x.entry.ticket) k x (Outcome.Ended Ending.Busy) m.holds.out w m.holds.unit
    m.holds.there m.holds.seat (λ u n. n)
    (λ past. (refl, ap (λ c. c || done x.entry.ticket past) (itself x.entry.ticket))) us b h
transition_works (Transition.CommitAborted k x why) w m us names b h =
    let u = m.holds.unit in
    let t = x.entry.ticket in
    let this : Seat = record { hand = Hand.Taken x; out = m.holds.out } in
    let new = Hand.Done x (Outcome.Ended (Ending.Aborted why)) in
    let c = taken k x m.holds.out w u m.holds.there m.holds.seat h in
    let on = ap (λ (o : Option Reason). is_some o) m.marked in
    let is : IsEnded t u.steps = (x.entry, c.0, or_right (done t u.steps) (marked t u.steps) on) in
    (seat_goes w.units (with_hand new) k w.seats this m.holds.seat (λ z. ((u, m.holds.there, is), z.1)) h.0, h.1)
transition_works (Transition.Withhold k x r) w m us names b h = withholds k x r w m us b h
transition_works (Transition.Conclude k x r) w m us names b h =
    let u = m.holds.unit in
    let t = x.entry.ticket in
    let this : Seat = record { hand = Hand.Taken x; out = m.holds.out } in
    let new = Hand.Done x (Outcome.Ended (Ending.Replied r)) in
    let c = taken k x m.holds.out w u m.holds.there m.holds.seat h in
    let ran = ran_done t r u.steps m.may.1.ran in
    let is : IsEnded t u.steps = (x.entry, c.0, ap (λ b. b || marked t u.steps) ran) in
    (seat_goes w.units (with_hand new) k w.seats this m.holds.seat (λ z. ((u, m.holds.there, is), z.1)) h.0, h.1)
transition_works (Transition.CommitUnknown k x) w m us names b h = absurd (never_lost k x w m h)
transition_works (Transition.Defer k x) w m us names b h =
    let P = ToCommit w.units in
    let this : Seat = record { hand = Hand.Taken x; out = m.holds.out } in
    let a = between_parts P (all_off w) w.aside w.woken h.1 in
    let c = (h.0 k this m.holds.seat).0 in (
      seat_goes w.units (with_hand Hand.Empty) k w.seats this m.holds.seat (λ z. (tt, z.1)) h.0,
      between_all P (all_off w) (w.aside ++ x ∷ []) w.woken a.0 (each_push P w.aside x a.1 c) a.2,
    )
transition_works Transition.Wake w m us names b h =
    (h.0, each_woken (ToCommit w.units) (all_off w) w.aside w.woken h.1)
transition_works (Transition.Resume k x) w m us names b h =
    let P = ToCommit w.units in
    let this : Seat = record { hand = Hand.Empty; out = m.free.0 } in
    let a = between_parts P (all_off w) w.aside w.woken h.1 in
    let r = first_taken P w.woken x m.rest m.first a.2 in (
      seat_goes w.units (with_hand (Hand.Taken x)) k w.seats this m.free.1 (λ z. (r.0, z.1)) h.0,
      between_all P (all_off w) w.aside (drop 1 w.woken) a.0 a.1 r.1,
    )
transition_works (Transition.Answer k x o xs) w m us names b h =
    let this : Seat = record { hand = Hand.Done x o; out = m.out } in
    let new = Hand.Answered x.unit x.chain.ticket in
    let e = done_is_named k x o m.out w m.seat names in (
      seat_goes w.units (with_hand new) k w.seats this m.seat
          (λ z. (subst (ToLeave w.units x.unit) (sym e) z.0, z.1)) h.0,
      h.1,
    )
transition_works (Transition.Leave k unit_index t jobs) w m us names b h =
    let s = Step.Leave t in
    let u = m.holds.unit in
    let hand = Hand.Answered unit_index t in
    let new = change (stepped s) unit_index w.units in
    let step = goes s (stepped s) unit_index w.units (follows s) in
    let le = out_once unit_index t w u m.holds.there us b in
    let own = its_own unit_index t in
    let sp = spares_else s unit_index t k w.seats (between w) hand m.holds.out (λ v n. n) m.holds.seat own le in
    let more = given s unit_index w.units u jobs m.holds.there m.may (us unit_index u m.holds.there) names.1 m.enables in
    ends s unit_index k w.units new w.seats (between w) hand m.holds.out (leaving jobs) step m.holds.seat sp
    (λ was out. (tt, all_push (ToCommit new) m.holds.out jobs out more)) h
transition_works (Transition.Mark t p how jobs) w m us names b h =
    let s = step_by how in
    let u = m.marking.unit in
    let new = change (stepped s) p.unit w.units in
    let at = m.marking.unit_there in
    let more = given s p.unit w.units u jobs at (may_mark how u) (us p.unit u at) names.1 m.releases in
    let r = gets s p.unit w.units new 0 w.seats (between w) m.seat jobs (goes s (stepped s) p.unit w.units (follows s))
    (mild_mark how) m.seat_there more h in
    (r.0, each_woken (ToCommit new) (all_off w) w.aside w.woken r.1)
transition_works (Transition.Hard p jobs) w m us names b h =
    let s = Step.Reset hard_code in
    let new = change (stepped s) p.unit w.units in
    let more = given s p.unit w.units m.unit jobs m.there tt (us p.unit m.unit m.there) names.1 m.releases in
    let r = gets s p.unit w.units new w.workers w.seats (between w) m.seat jobs
    (goes s (stepped s) p.unit w.units (follows s)) (λ t. tt) m.seat_there more h in
    (r.0, each_woken (ToCommit new) (all_off w) w.aside w.woken r.1)
transition_works (Transition.Resize unit_index blocks) w m us names b h =
    let s = Step.Resize blocks in
    stays s unit_index w.units (change (stepped s) unit_index w.units) w.seats (between w)
    (goes s (stepped s) unit_index w.units (follows s)) (λ t. tt) h
transition_works (Transition.Deal unit_index x) w m us names b h = (
  λ i r at.
      let was = h.0 i r at in (
        hand_kept (dealing x) unit_index w.units r.hand (λ u. (refl, deal_alike x u)) was.0,
        jobs_kept (dealing x) unit_index w.units r.out (λ u. (refl, deal_alike x u)) was.1,
      ),
  jobs_kept (dealing x) unit_index w.units (between w) (λ u. (refl, deal_alike x u)) h.1,
)
transition_works d w m us names b h = h

-- Every world that is reached

abbrev pub Works : PlainWorld → Type 0
Works w = AreUnits w × AreNamed w × AreBalanced w × AtWork w

-- no job at the opening
new_works : (w : PlainWorld) → Opens w → AtWork w
new_works w o = (
  λ k s at.
      let n : IsNewSeat s = o.seats k s at in
      (subst (HandAt w.units) (sym n.hand) tt, subst (JobsAt w.units) (sym n.out) tt),
  subst (JobsAt w.units) (sym (none_between w o.handed_off o.aside o.woken)) tt,
)

pub run_works : (old : PlainWorld) (trace : List Occurrence) (w : PlainWorld) → Opens old → Runs old trace w → Works w
run_works old trace w o r =
    run_keeps Works (λ d v m h. (
      transition_units d v m h.0,
      transition_names d v m h.1,
      transition_balances d v m h.1 h.2,
      transition_works d v m h.0 h.1 h.2 h.3,
    )) old trace w (new_units old o, new_named old o, new_balanced old o, new_works old o) r

-- As it is told of the world

to_commit : (w : PlainWorld) (x : PlainJob) → ToCommit w.units x → IsToCommit w x
to_commit w x h =
    record { unit = h.0; there = h.1; alive = h.2.0; handed_out = h.2.1; undone = h.2.2 }

to_leave : (w : PlainWorld) (unit_index : ℕ) (t : Ticket) → ToLeave w.units unit_index t → IsToLeave w unit_index t
to_leave w unit_index t h = record { unit = h.0; there = h.1; entry = h.2.0; alive = h.2.1; ended = h.2.2 }

hand_works : (w : PlainWorld) (hand : Hand) → HandAt w.units hand → HandWorks w hand
hand_works w Hand.Empty h = tt
hand_works w (Hand.Taken x) h = to_commit w x h
hand_works w (Hand.Done x o) h = to_leave w x.unit x.entry.ticket h
hand_works w (Hand.Answered unit_index t) h = to_leave w unit_index t h

jobs_work : (w : PlainWorld) (xs : List PlainJob) → JobsAt w.units xs → AllByRecursion (IsToCommit w) xs
jobs_work w [] h = tt
jobs_work w (x ∷ xs) h = (to_commit w x h.0, jobs_work w xs h.1)

pub all_work : (w : PlainWorld) → AtWork w → AreAtWork w
all_work w h =
    let b = between_parts (ToCommit w.units) (all_off w) w.aside w.woken h.1 in
    record {
      seats = λ k s at. let is = h.0 k s at in (hand_works w s.hand is.0, jobs_work w s.out is.1);
      handed_off = jobs_work w (all_off w) b.0;
      aside = jobs_work w w.aside b.1;
      woken = jobs_work w w.woken b.2;
    }
