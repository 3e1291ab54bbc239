-- What a look at the device tells of its events.
use Rattle.std.proofs.Common.{◌≡◌, inl, inr, ℕ, zero, suc, ◌<◌, Bool, true, false, List, [], ◌∷◌, length, Option, Some, None, IsTrue, is_some, refl, sym, ap, ◌∙◌, subst, arith, ◌≤◌, ◌↔◌}
use Rattle.std.specs.Prelude.{slice_get, get_or}
use Rattle.std.proofs.lemmas.Option.{slice_get_read, slice_get_within}
use Rattle.ring_core.specs.Offer.{Offers, Nothing}
use Rattle.scsi_codec.specs.declared.event_queue.Event.{Event as EventRecord}
use Rattle.unit_model.specs.Clearing.{is_clear}
use Rattle.unit_model.specs.Jobs.{PlainJob}
use Rattle.unit_model.specs.Unit.{PlainUnit}
use Rattle.task_mgmt.specs.declared.function.Mark.{Mark as MarkAt}
use Rattle.virtqueue.specs.Looking.{IsIdle}
use Rattle.phases.specs.Slots.{arrived_unit, is_direct}
use Rattle.device_model.specs.Parts.{Slot, Hand}
use Rattle.device_model.specs.World.{PlainQueue, PlainWorld, Opened, Seat}
use Rattle.device_model.specs.Events.{Event}
use Rattle.device_model.specs.Applies.{Applies}
use Rattle.device_model.specs.Event.Check.{MayCheck}
use Rattle.device_model.specs.Event.Mark.{MayMark}
use Rattle.device_model.specs.Event.AnswerTmf.{MayRespond}
use Rattle.device_model.specs.Event.HandOff.{MayPut, MayTake}
use Rattle.device_model.specs.Event.Wake.{MayResume}
use Rattle.device_model.specs.Event.Fetch.{IsOpenTo}
use Rattle.device_model.specs.Found.{SeatIs}
use Rattle.device_model.proofs.Lists.{same, nothing}
use Rattle.device_model.specs.Order.{of_seat, IsQuietOf, NoneApplies}
use Rattle.device_model.proofs.Quiet.{AllQuiet, all_quiet}
use Rattle.device_steps.specs.Inner.Cursors.{Denies, of_function, NoDirect, NoSeat, NoEnter, NoFetch}
use Rattle.device_steps.specs.Inner.Off.{AreBare}
use Rattle.device_steps.proofs.Choosing.{option_none}
use Rattle.device_steps.proofs.Ordering.{none_left}
use Rattle.device_steps.proofs.Stages as stages

-- a test that is true denies what would follow from another fact
pub denied : (P Q : Type 0) (b : Bool) → b ≡ true → Denies P b → (Q → P) → Q → ⊥
denied P Q true on h f q = h (f q)
denied P Q false on h f q = absurd (cc)

-- and one that is false tells the fact
pub told : (P : Type 0) (b : Bool) → b ≡ false → Denies P b → P
told P false off h = h
told P true off h = absurd (cc)

-- a test that is true denies its fact
pub denied_by : (P : Type 0) (b : Bool) → b ≡ true → Denies P b → P → ⊥
denied_by P b on h p = denied P P b on h (λ x. x) p

-- a queue as it was read
pub queue_read : (w : PlainWorld) (queues : List PlainQueue) (size n : ℕ) (q : PlainQueue) → w.queues ≡ queues
    → size ≡ length queues → n < length w.queues → q ≡ get_or queues n q → slice_get w.queues n ≡ Some q
queue_read w queues size n q is many lt read =
    ap (λ (qs : List PlainQueue). slice_get qs n) is
    ∙ slice_get_read queues size n q many (omega (arith, lt, many, ap (λ (qs : List PlainQueue). length qs) is)) read

pub false_true : false ≡ true → ⊥
false_true e = cc

-- The function

-- a list begins with what is read first
first_there : {X : Type 0} (xs : List X) (x : X) → slice_get xs 0 ≡ Some x → (later : List X) × (xs ≡ x ∷ later)
first_there [] x e = absurd (nothing e)
first_there (y ∷ ys) x e = (ys, ap (λ z. z ∷ ys) (same e))

none_there : {X : Type 0} (xs : List X) → slice_get xs 0 ≡ None → xs ≡ []
none_there [] e = refl
none_there (y ∷ ys) e = absurd (nothing (sym e))

not_empty : {X : Type 0} {x : X} {xs : List X} → x ∷ xs ≡ [] → ⊥
not_empty e = cc

same_first : {X : Type 0} {x y : X} {xs ys : List X} → x ∷ xs ≡ y ∷ ys → x ≡ y
same_first e = cc

-- a unit is left to visit
pub marks : (w : PlainWorld) (o : Opened) (unit_index : ℕ) → w.function ≡ Some o → slice_get o.function.left 0 ≡ Some unit_index
    → NoneApplies w of_function → ⊥
marks w o unit_index there first none =
    let l = first_there o.function.left unit_index first in
    none.1.1.0 (record { opened = o; there = there; unit_index = unit_index; later = l.0; left = l.1 })

pub marks_some : (w : PlainWorld) (o : Opened) (r : Option ℕ) → w.function ≡ Some o
    → r ≡ slice_get o.function.left 0 → is_some r ≡ true → NoneApplies w of_function → ⊥
marks_some w o None there first some = absurd (cc)
marks_some w o (Some unit_index) there first some = marks w o unit_index there (sym first)

-- none is left, and no mark is waited for
pub responds : (w : PlainWorld) (o : Opened) → w.function ≡ Some o → slice_get o.function.left 0 ≡ None
    → slice_get o.function.waits 0 ≡ None → NoneApplies w of_function → ⊥
responds w o there left waits none =
    none.0 (record {
      opened = o;
      there = there;
      left = none_there o.function.left left;
      still = none_there o.function.waits waits;
    })

-- the function that is open is one
one_open : (w : PlainWorld) (o p : Opened) → w.function ≡ Some o → w.function ≡ Some p → o ≡ p
one_open w o p a b = same (sym a ∙ b)

-- none is left, and a mark is waited for: its check alone may apply
only_check : (w : PlainWorld) (o : Opened) (mark : MarkAt) → w.function ≡ Some o → slice_get o.function.left 0 ≡ None
    → slice_get o.function.waits 0 ≡ Some mark → (MayCheck w → ⊥) → NoneApplies w of_function
only_check w o mark there left waits never =
    let l = none_there o.function.left left in
    let m = first_there o.function.waits mark waits in (
      (λ (r : MayRespond w).
          not_empty (sym m.1 ∙ ap (λ (z : Opened). z.function.waits) (one_open w o r.opened there r.there) ∙ r.still)),
      (
        never,
        (
          (λ (r : MayMark w).
              not_empty (sym r.left ∙ ap (λ (z : Opened). z.function.left) (one_open w r.opened o r.there there) ∙ l)),
          tt,
        ),
      ),
    )

-- its unit is the one that is waited for
waited : (w : PlainWorld) (o : Opened) (mark : MarkAt) → w.function ≡ Some o → slice_get o.function.waits 0 ≡ Some mark
    → (c : MayCheck w) → c.mark ≡ mark
waited w o mark there waits c =
    let m = first_there o.function.waits mark waits in
    same_first (sym c.still ∙ ap (λ (z : Opened). z.function.waits) (one_open w c.opened o c.there there) ∙ m.1)

-- that unit isn't there
pub unit_absent : (w : PlainWorld) (o : Opened) (mark : MarkAt) → w.function ≡ Some o → slice_get o.function.left 0 ≡ None
    → slice_get o.function.waits 0 ≡ Some mark → length w.units ≤ mark.unit → NoneApplies w of_function
unit_absent w o mark there left waits far =
    only_check w o mark there left waits
    (λ c.
    let at : slice_get w.units mark.unit ≡ Some c.unit =
    ap (λ (m : MarkAt). slice_get w.units m.unit) (sym (waited w o mark there waits c)) ∙ c.unit_there in
    omega (arith, far, slice_get_within w.units mark.unit c.unit at))

-- or it is, and the mark is clear or not
pub checks : (w : PlainWorld) (o : Opened) (mark : MarkAt) (u : PlainUnit) (b : Bool) → w.function ≡ Some o
    → slice_get o.function.left 0 ≡ None → slice_get o.function.waits 0 ≡ Some mark
    → slice_get w.units mark.unit ≡ Some u → b ≡ is_clear mark.place u.steps → Denies (NoneApplies w of_function) b
checks w o mark u true there left waits at is =
    let m = first_there o.function.waits mark waits in
    λ none. none.1.0 (record {
      opened = o;
      there = there;
      left = none_there o.function.left left;
      mark = mark;
      later = m.0;
      still = m.1;
      unit = u;
      unit_there = at;
      clear = sym is;
    })
checks w o mark u false there left waits at is =
    only_check w o mark there left waits
    (λ c.
    let it = waited w o mark there waits c in
    let unit : c.unit ≡ u =
    same (sym c.unit_there ∙ ap (λ (m : MarkAt). slice_get w.units m.unit) it ∙ at) in
    let clear : is_clear mark.place u.steps ≡ true =
    ap (λ (m : MarkAt). is_clear m.place u.steps) (sym it) ∙ ap (λ (v : PlainUnit). is_clear c.mark.place v.steps) (sym unit)
    ∙ c.clear in
    false_true (is ∙ clear))

-- Events that wait

pub raised : (w : PlainWorld) (o : Option EventRecord) → o ≡ slice_get w.waiting 0 → is_some o ≡ true → Applies w Event.Raise
raised w None is on = absurd (cc)
raised w (Some e) is on = let l = first_there w.waiting e (sym is) in (e, l.0, l.1)

pub no_raise : (w : PlainWorld) (o : Option EventRecord) → o ≡ slice_get w.waiting 0 → is_some o ≡ false
    → Applies w Event.Raise → ⊥
no_raise w o is off a =
    false_true (sym off ∙ ap is_some (is ∙ ap (λ (es : List EventRecord). slice_get es 0) a.2))

-- Slots

slot_direct : (w : PlainWorld) (i : ℕ) (q : PlainQueue) → slice_get w.queues i ≡ Some q → (s : Slot) → q.slot ≡ s
    → is_direct s ≡ true → Applies w (Event.Direct i)
slot_direct w i q at Slot.Empty is on = absurd (cc)
slot_direct w i q at (Slot.Arrived x) is on = absurd (cc)
slot_direct w i q at (Slot.Direct c o) is on = (c, o, (q, at, is))

slot_arrived : (w : PlainWorld) (i : ℕ) (q : PlainQueue) → slice_get w.queues i ≡ Some q → (s : Slot) → q.slot ≡ s
    → is_some (arrived_unit s) ≡ true → Applies w (Event.Enter i)
slot_arrived w i q at Slot.Empty is on = absurd (cc)
slot_arrived w i q at (Slot.Arrived x) is on = (x, (q, at, is))
slot_arrived w i q at (Slot.Direct c o) is on = absurd (cc)

pub ready_there : (w : PlainWorld) (i : ℕ) (q : PlainQueue) → slice_get w.queues i ≡ Some q → is_direct q.slot ≡ true
    → Applies w (Event.Direct i)
ready_there w i q at on = slot_direct w i q at q.slot refl on

pub no_ready : (w : PlainWorld) (i : ℕ) (q : PlainQueue) → slice_get w.queues i ≡ Some q → is_direct q.slot ≡ false
    → Applies w (Event.Direct i) → ⊥
no_ready w i q at off a =
    let s = ap (λ (z : PlainQueue). z.slot) (same (sym at ∙ a.2.1)) ∙ a.2.2 in
    false_true (sym off ∙ ap is_direct s)

pub arrived_there : (w : PlainWorld) (i : ℕ) (q : PlainQueue) → slice_get w.queues i ≡ Some q
    → is_some (arrived_unit q.slot) ≡ true → Applies w (Event.Enter i)
arrived_there w i q at on = slot_arrived w i q at q.slot refl on

pub no_arrived : (w : PlainWorld) (i : ℕ) (q : PlainQueue) → slice_get w.queues i ≡ Some q
    → is_some (arrived_unit q.slot) ≡ false → Applies w (Event.Enter i) → ⊥
no_arrived w i q at off a =
    let s = ap (λ (z : PlainQueue). z.slot) (same (sym at ∙ a.1.1)) ∙ a.1.2 in
    false_true (sym off ∙ ap (λ z. is_some (arrived_unit z)) s)

-- Chains

whole_so : (w : PlainWorld) (q : PlainQueue) (b : Option _) → q.ring.broken ≡ b → (IsIdle q.ring w.memory → ⊥) → b ≡ None
whole_so w q None is busy = refl
whole_so w q (Some f) is busy = absurd (busy (inl (ap is_some is)))

-- a queue that is open and has a chain
pub chain_there : (w : PlainWorld) (i : ℕ) (q : PlainQueue) → slice_get w.queues i ≡ Some q → q.slot ≡ Slot.Empty
    → IsOpenTo w i → (IsIdle q.ring w.memory → ⊥) → Applies w (Event.Fetch i)
chain_there w i q at empty opened busy =
    record {
      queue = q;
      there = at;
      empty = empty;
      opened = opened;
      whole = whole_so w q q.ring.broken refl busy;
      has_some = λ o. busy (inr o);
    }

-- or not
none_some : {X : Type 0} {o : Option X} → o ≡ None → is_some o ≡ true → ⊥
none_some e h = false_true (sym (ap is_some e) ∙ h)

abbrev MayFetchAs : PlainWorld → PlainQueue → Type 0
MayFetchAs w q =
    (q.slot ≡ Slot.Empty) × (q.ring.broken ≡ None) × (Offers q.ring w.memory Nothing → ⊥)

pub no_chain : (w : PlainWorld) (i : ℕ) (q : PlainQueue) → slice_get w.queues i ≡ Some q
    → ((q.slot ≡ Slot.Empty) × (IsIdle q.ring w.memory → ⊥) → ⊥) → Applies w (Event.Fetch i) → ⊥
no_chain w i q at never a =
    let one : a.queue ≡ q = same (sym a.there ∙ at) in
    let m : MayFetchAs w q = subst (λ (z : PlainQueue). MayFetchAs w z) one (a.empty, a.whole, a.has_some) in
    never (m.0, (λ idle. elim idle [ inl b ↦ none_some m.1 b | inr o ↦ m.2 o ]))

-- queue 0 is not fetched from while a function is open
pub open_other : (w : PlainWorld) (i : ℕ) → (i ≡ 0 → ⊥) → IsOpenTo w i
open_other w zero other = absurd (other refl)
open_other w (suc i) other = tt

pub closed_so : (w : PlainWorld) (i : ℕ) (b : Bool) → i ≡ 0 → b ≡ is_some w.function → Denies (IsOpenTo w i) b
closed_so w zero true control is = λ closed. none_some closed (sym is)
closed_so w zero false control is = option_none w.function (sym is)
closed_so w (suc i) b control is = absurd (omega (arith, control))

pub chain_look : (w : PlainWorld) (i : ℕ) (q : PlainQueue) (asked b : Bool) → slice_get w.queues i ≡ Some q
    → asked ≡ true → IsOpenTo w i
    → IsTrue b ↔ ((q.slot ≡ Slot.Empty) × (IsIdle q.ring w.memory → ⊥))
    → Denies (asked ≡ true → Applies w (Event.Fetch i) → ⊥) b
chain_look w i q asked true at on opened h =
    let p = h.0 refl in λ never. never on (chain_there w i q at p.0 opened p.1)
chain_look w i q asked false at on opened h = λ is_asked. no_chain w i q at (λ p. false_true (h.1 p))

-- Seats

-- a hand that isn't empty has a step
pub hand_steps : (w : PlainWorld) (k : ℕ) (h : Hand) (jobs : List PlainJob) → SeatIs w k h jobs → (h ≡ Hand.Empty → ⊥)
    → NoneApplies w (of_seat k) → ⊥
hand_steps w k Hand.Empty jobs at busy none = busy refl
hand_steps w k (Hand.Taken x) jobs at busy none = none.1.1.0 (x, (jobs, at))
hand_steps w k (Hand.Done x o) jobs at busy none = none.1.0 (x, o, (jobs, at))
hand_steps w k (Hand.Answered unit_index t) jobs at busy none = none.0 (unit_index, t, (jobs, at))

pub idle_there : (w : PlainWorld) (k : ℕ) (h : Hand) (jobs : List PlainJob) → SeatIs w k h jobs
    → (h ≡ Hand.Empty) × (jobs ≡ []) → SeatIs w k Hand.Empty []
idle_there w k h jobs at idle =
    subst (λ (out : List PlainJob). SeatIs w k Hand.Empty out) idle.1
    (subst (λ (g : Hand). SeatIs w k g jobs) idle.0 at)

-- or a job to hand off
job_there : (w : PlainWorld) (k : ℕ) (jobs : List PlainJob) → SeatIs w k Hand.Empty jobs → (jobs ≡ [] → ⊥)
    → NoneApplies w (of_seat k) → ⊥
job_there w k [] at some none = some refl
job_there w k (x ∷ rest) at some none = none.1.1.1.0 (record { job = x; rest = rest; seat = at })

pub job_steps : (w : PlainWorld) (k : ℕ) (h : Hand) (jobs : List PlainJob) → SeatIs w k h jobs → h ≡ Hand.Empty
    → ((h ≡ Hand.Empty) × (jobs ≡ []) → ⊥) → NoneApplies w (of_seat k) → ⊥
job_steps w k h jobs at free busy =
    job_there w k jobs (subst (λ (g : Hand). SeatIs w k g jobs) free at) (λ none. busy (free, none))

-- an idle seat: it takes a job, where it is a worker's and one was handed off
idle_seat : (w : PlainWorld) (k : ℕ) → (MayResume w k → ⊥) → SeatIs w k Hand.Empty [] → (MayTake w k → ⊥)
    → NoneApplies w (of_seat k)
idle_seat w k none at never =
    let i = stages.free w k ([], at) in (
      i.leave,
      (
        i.answer,
        (
          i.commit,
          (
            (λ (m : MayPut w k). not_empty (ap (λ (s : Seat). s.out) (same (sym m.seat ∙ at)))),
            (none, (never, tt)),
          ),
        ),
      ),
    )

pub no_worker : (w : PlainWorld) (k : ℕ) → SeatIs w k Hand.Empty [] → (k < w.workers → ⊥) → NoneApplies w (of_seat k)
no_worker w k at operator =
    idle_seat w k (λ (m : MayResume w k). operator m.worker) at (λ (m : MayTake w k). operator m.worker)

-- or it tries one again
again : (w : PlainWorld) (k : ℕ) (jobs : List PlainJob) → w.woken ≡ jobs → SeatIs w k Hand.Empty [] → k < w.workers
    → (jobs ≡ [] → ⊥) → NoneApplies w (of_seat k) → ⊥
again w k [] is at worker some none = some refl
again w k (x ∷ rest) is at worker some none =
    none.1.1.1.1.0 (record { worker = worker; free = ([], at); job = x; rest = rest; first = is })

pub tries_again : (w : PlainWorld) (k : ℕ) → SeatIs w k Hand.Empty [] → k < w.workers → (w.woken ≡ [] → ⊥)
    → NoneApplies w (of_seat k) → ⊥
tries_again w k at worker some = again w k w.woken refl at worker some

bare : (w : PlainWorld) (k i : ℕ) → SeatIs w k Hand.Empty [] → k < w.workers → NoneApplies w (of_seat k)
    → (jobs : List PlainJob) → slice_get w.handed_off i ≡ Some jobs → jobs ≡ []
bare w k i at worker none [] there = refl
bare w k i at worker none (x ∷ rest) there =
    absurd (none.1.1.1.1.1.0 (record {
      worker = worker;
      seat = at;
      from = i;
      job = x;
      rest = rest;
      handed_off = there;
    }))

pub takes : (w : PlainWorld) (k : ℕ) (b : Bool) → w.woken ≡ [] → SeatIs w k Hand.Empty [] → k < w.workers → Denies (AreBare w.handed_off) b
    → Denies (NoneApplies w (of_seat k)) b
takes w k true woken at worker h = λ none. h (λ i jobs there. bare w k i at worker none jobs there)
takes w k false woken at worker h =
    idle_seat w k (stages.none_resumes w k woken) at (λ (m : MayTake w k). not_empty (h m.from (m.job ∷ m.rest) m.handed_off))

-- All of them

seats_quiet : (asked : ℕ → Bool) (w : PlainWorld) → AllQuiet asked w → NoSeat w
seats_quiet asked w a k lt = let s = a.seats k lt in (s.leave, (s.answer, (s.commit, (s.put, (s.resume, (s.take, tt))))))

pub function_quiet : (asked : ℕ → Bool) (w : PlainWorld) → IsQuietOf asked w → NoneApplies w of_function
function_quiet asked w q = let a = all_quiet asked w q in (a.answer_tmf, (a.check, (a.mark, tt)))

pub raise_quiet : (asked : ℕ → Bool) (w : PlainWorld) → IsQuietOf asked w → Applies w Event.Raise → ⊥
raise_quiet asked w q = (all_quiet asked w q).raise

pub direct_quiet : (asked : ℕ → Bool) (w : PlainWorld) → IsQuietOf asked w → NoDirect w
direct_quiet asked w q i lt = ((all_quiet asked w q).queues i lt).direct

pub seat_quiet : (asked : ℕ → Bool) (w : PlainWorld) → IsQuietOf asked w → NoSeat w
seat_quiet asked w q = seats_quiet asked w (all_quiet asked w q)

pub enter_quiet : (asked : ℕ → Bool) (w : PlainWorld) → IsQuietOf asked w → NoEnter w
enter_quiet asked w q i lt = ((all_quiet asked w q).queues i lt).enter

pub last_look : (asked : ℕ → Bool) (w : PlainWorld) (b : Bool) → NoneApplies w of_function
    → (Applies w Event.Raise → ⊥) → NoDirect w → NoSeat w → NoEnter w → Denies (NoFetch asked w) b
    → Denies (IsQuietOf asked w) b
last_look asked w true f r d s e h = λ q. h (λ i lt on. ((all_quiet asked w q).queues i lt).fetch on)
last_look asked w false f r d s e h =
    none_left asked w (record { function = f; waiting = r }, d, s, e) h
